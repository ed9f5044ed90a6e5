-- `sets::put_sets` meets its contract: the edges of one jump at a time, and its set put in.
use Rattle.std.proofs.Common.{◌<◌}
use native.Mathlib.Omega.{arith}
use Rattle.graph.specs.Claim.{edge_count}
use Rattle.lists.proofs.Bools.{and_left, and_right}
use Rattle.rising.proofs.Rising.{clean_rising}
use Rattle.checker.proofs.Runs.{run_at, cut_at, cut_run, cut_between, jumps_rise, edges_of}
use Rattle.checker.proofs.TargetSets.{put_skip}
use Rattle.checker.proofs.sets.put_sets.Goals as goal

pub invariant_of-set : goal.invariant_of-set
invariant_of-set c =
    let edges = c.args.claim.now.edges.now in
    let rising = clean_rising edges c.args.claim.now.claimed.rising in
    let low : c.loop-first.first < edge_count c.args.claim.now.edges.now = omega (arith, c.loop-first-test.true, c.count-m.ensures) in
    record {
      edges_of = edges_of edges rising _ c.args.claim.now.claimed.within _ _ (cut_at _ rising _ _ c.loop-first.invariant.2 low)
          (run_at edges _ _ c.jump-j.ensures.is c.run_end-end.ensures) low;
    }

pub put-it_fits-requires : goal.put-it_fits-requires
put-it_fits-requires c =
    let edges = c.args.claim.now.edges.now in
    let rising = clean_rising edges c.args.claim.now.claimed.rising in
    let low : c.loop-first.first < edge_count c.args.claim.now.edges.now = omega (arith, c.loop-first-test.true, c.count-m.ensures) in
    put_skip _ _ c.args.claim.now.claimed.within _ _ _ _ (c.loop-first.invariant.2.above c.loop-first.first (omega arith) low)
    (cut_between _ rising c.args.claim.now.code.n _ _ _ c.loop-first.invariant.2 (jumps_rise edges rising c.loop-first.first))
    c.loop-first.invariant.3

pub loop-first-preserved : goal.loop-first-preserved
loop-first-preserved c =
    let edges = c.args.claim.now.edges.now in
    let rising = clean_rising edges c.args.claim.now.claimed.rising in
    let low : c.loop-first.first < edge_count c.args.claim.now.edges.now = omega (arith, c.loop-first-test.true, c.count-m.ensures) in
    let run = run_at edges _ _ c.jump-j.ensures.is c.run_end-end.ensures in (
      _,
      omega (arith, c.args.claim.now.claimed.within.jumps c.loop-first.first low),
      cut_run _ rising _ _ _ (cut_at _ rising _ _ c.loop-first.invariant.2 low) run,
      c.put-it_fits.ensures.put,
      λ e t l z. c.loop-first.invariant.4 (and_left _ c.put-it_fits.result e) t l
          (c.put-it_fits.ensures.calm (and_right c.loop-first.fitting _ e) t l z),
    )

pub returns : goal.returns
returns c =
    record {
      met = (put_skip _ _ c.args.claim.now.claimed.within _ _ _ _ c.loop-first.invariant.1
          (cut_between _ (clean_rising _ c.args.claim.now.claimed.rising) c.args.claim.now.code.n _ _ _ c.loop-first.invariant.2
          (λ i l q. absurd (omega (arith, c.loop-first-test.false, c.count-m.ensures))))
          c.loop-first.invariant.3).met;
      calm = c.loop-first.invariant.4;
    }
