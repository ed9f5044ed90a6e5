-- What is proved of guards put in, put together.
use Prim.Native.Nat.{ℕ, suc, ◌+◌, ◌<◌}
use mathlib.Core.Path.{◌≡◌, ap, subst}
use mathlib.Core.Bool.{true, false}
use Rattle.std.specs.Prelude.{Some}
use mathlib.Core.List.{List, [], ◌∷◌, map}
use native.Mathlib.Omega.{arith}
use lib.ListN.{length}
use Rattle.lists.proofs.Bools.{both_true}
use Rattle.isa.specs.declared.Instr.{Instr}
use Rattle.isa.specs.declared.Technique.{Technique}
use Rattle.isa.specs.Words.{encode_of}
use Rattle.isa.specs.Instructions.{instr_at, is_jump, is_store, branch_target}
use Rattle.graph.specs.Claim.{id_of}
use Rattle.guards.specs.Sequences.{store_guard}
use Rattle.checker.proofs.Equivalence.{accepted_exactly}
use Rattle.guarded.specs.Rewrite.{
  guards_stores,
  block_size,
  map_of,
  new_length,
  filled,
  jump_words,
  store_words,
  with_target,
}
use Rattle.guarded.specs.Theorems.{Rewritable, Stand, new_memory, body_start, Block, Rewriting, GuardsPutIn}
use Rattle.guarded.proofs.Blocks.{locate, ones_length, ones_at}
use Rattle.guarded.proofs.Cases.{branch_other, target_of_lem}
use Rattle.guarded.proofs.Places.{
  body_pos,
  jump_size,
  map_le,
  map_lt,
  code_length,
  last_word,
  label_at_lem,
  body_ends,
  jump_stands,
  store_stands,
  other_stands,
}
use Rattle.guarded.proofs.Lengths.{plain_map, guarded_map, one_edge}
use Rattle.guarded.proofs.Claims.{new_jump_lem, new_target, jump_next, new_listed, moved, id_moved}
use Rattle.guarded.proofs.Fill.{one_stands}
use Rattle.guarded.proofs.Accepted.{claim_length, conditions}
use Rattle.guarded.proofs.Passed.{may_rewrite}

module _ (t : Technique) (bare : List ℕ) (n : ℕ) (edges values : List ℕ) where
  abbrev memory : List ℕ
  memory = new_memory t bare n edges values

  abbrev N : ℕ
  N = new_length t bare n edges

  abbrev new : ℕ → ℕ
  new a = map_of t bare edges a

  abbrev start : ℕ → ℕ
  start a = body_start t bare n edges values a

  starts_rise : (a b : ℕ) → a < b → start a < start b
  starts_rise a b h =
      let z = body_ends t bare n edges values a in
      let p = body_pos t (instr_at bare a) in
      let l = map_le t bare edges (suc a) b h in
      omega arith

  module _ (a : ℕ) (h : a < n) where
    store : (rd rs w : ℕ) → guards_stores t ≡ true → instr_at bare a ≡ Instr.St rd rs w
        → Stand memory (start a) (map encode_of (filled (store_guard N (length memory)) rd w rs))
    store rd rs w g e =
        subst (λ (i : Instr). Stand memory (start a) (store_words N (length memory) i)) e
        (store_stands t bare n edges values a h (both_true g (ap is_store e)))

    branch : (w : ℕ) → branch_target (instr_at bare a) ≡ Some w
        → Stand memory (start a) (encode_of (with_target (instr_at bare a) (new w)) ∷ [])
    branch w e =
        let b = target_of_lem (instr_at bare a) w e in
        let o = branch_other t (instr_at bare a) b.0 in
        subst (λ (x : ℕ). Stand memory (start a) (encode_of (with_target (instr_at bare a) (new x)) ∷ [])) b.1
        (other_stands t bare n edges values a h true o.0 o.1 b.0)

    block : Block t bare n edges values a
    block =
        record {
          label = λ e. one_stands memory (new a) _ (label_at_lem t bare n edges values a h e);
          jump = λ rs e.
              subst (λ (i : Instr). Stand memory (start a) (jump_words t N (new (id_of edges n a)) i)) e
              (jump_stands t bare n edges values a h (ap is_jump e));
          jump_last = λ rs e.
              let s = jump_size t 0 (instr_at bare a) 0 (ap is_jump e) in
              let z = body_ends t bare n edges values a in
              let j = jump_next t bare edges a in
              omega arith;
          store = store;
          branch = branch;
          other = other_stands t bare n edges values a h false;
          next = body_ends t bare n edges values a;
        }

  rewriting : Rewritable t bare n edges (length values) → Rewriting t bare n edges values
  rewriting ok =
      record {
        accepted = accepted_exactly.complete t _ _ _ (conditions t bare n edges values ok);
        code_length = code_length t bare n edges (length values);
        map_length = ones_length (map_of t bare edges) n;
        map_entry = ones_at (map_of t bare edges) n;
        map_rises = map_lt t bare edges;
        words_rise = starts_rise;
        block = block;
        all_blocks = λ p h. locate (block_size t bare edges) n p (omega arith);
        last_illegal = last_word t bare n edges values;
        claim_length = claim_length t bare n edges values ok;
        edge_from = new_jump_lem t bare edges;
        edge_to = new_target t bare edges;
        edge_moved = new_listed t bare edges;
        edge_back = λ J X l. let m = moved t bare edges J X l in (m.j, (m.x, (m.listed, m.jump, m.target)));
        id_moved = id_moved t bare edges;
      }

pub guards_put_in : GuardsPutIn
guards_put_in =
    record {
      passed = may_rewrite;
      rewriting = rewriting;
      plain_length = λ bare n edges. ap (λ (x : ℕ). x + 1) (plain_map bare edges n);
      guarded_length = λ bare n edges. ap (λ (x : ℕ). x + 1) (guarded_map bare edges n);
      one_more = one_edge;
      one_changed = λ t bare n common edges other p q.
          let a = one_edge t bare n common edges p in let b = one_edge t bare n common other q in omega arith;
    }
