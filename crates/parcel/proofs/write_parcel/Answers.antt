-- `parcel::write_parcel` meets its contract: nothing is put where the answer is a refusal (`WriterAnswers`), and where it is none the
-- three sections are the parcel (`Sections`).
use Rattle.std.proofs.Common.{◌≡◌, ◌∙◌, ◌+◌, ◌-◌, ◌*◌, ◌≤◌, ℕ, true, List, length, take, drop, sym, ap₂, arith, length-drop}
use Rattle.std.proofs.lemmas.List.Edits.{sets}
use Rattle.std.proofs.lemmas.Result.{err_from_is_err_and}
use Rattle.std.proofs.Math.Seq.{take_all}
use Rattle.std.proofs.Math.ListN.{length-take}
use Rattle.std.specs.Prelude.{Ok, Err}
use Rattle.answers.specs.Shape.{call_shaped}
use Rattle.rising.proofs.Numbers.{numbers_length}
use Rattle.parcel.specs.Parcel.{section_of}
use Rattle.parcel.specs.Inner.{WellShaped, size_of, planned_of}
use Rattle.parcel.proofs.Sections.{parcel_put}
use Rattle.parcel.proofs.WriterAnswers.{well_shaped, planned_room, not_written, written}
use Rattle.parcel.proofs.write_parcel.Goals as goal

pub returns-in_err-size : goal.returns-in_err-size
returns-in_err-size g c =
    let a = c.args in
    let w = g.E.Stored.WIDTH in
    let xs = g.E.Number.numbers a.edges.now in
    let long = numbers_length g.E.Number.numbers g.E.Number.number g.E.Number.each a.edges.now in
    let known : call_shaped (length a.memory.now) a.n (length xs) ≡ true = rw long (sym c.call_shaped.ensures ∙ c.if-not-call_shaped.false) in
    let p = err_from_is_err_and c.from_residual.result c.from_residual.ensures.1 in
    let refused : Err c.in_err-size.field-0.0 ≡ planned_of (length a.memory.now) a.n (length xs) c.first_not_rising-first.result w (length a.parcel.now) =
    rw long c.in_err-size.ensures in
    rw (p.1, p.2) (not_written w a.memory.now a.n xs a.parcel.now known c.first_not_rising-first.ensures refused)

pub returns : goal.returns
returns g c =
    let a = c.args in
    let m = a.memory.now in
    let w = g.E.Stored.WIDTH in
    let xs = g.E.Number.numbers a.edges.now in
    let data_at = 8 + a.n * 8 + length xs * w in
    let long = numbers_length g.E.Number.numbers g.E.Number.number g.E.Number.each a.edges.now in
    let known : call_shaped (length m) a.n (length xs) ≡ true = rw long (sym c.call_shaped.ensures ∙ c.if-not-call_shaped.false) in
    let answered : Ok c.in_ok-size.size ≡ planned_of (length m) a.n (length xs) c.first_not_rising-first.result w (length a.parcel.now) =
    rw long c.in_ok-size.ensures in
    let shape : WellShaped (length m) a.n (length xs) = well_shaped (length m) a.n (length xs) known in
    let room : size_of (length m) a.n (length xs) w ≤ length a.parcel.now =
    planned_room (length m) a.n (length xs) c.first_not_rising-first.result w (length a.parcel.now) answered in
    let rest : take (length m - a.n) (drop a.n m) ≡ drop a.n m = take_all (length m - a.n) (drop a.n m) (simp length-drop (omega arith)) in
    let at : 8 + a.n * 8 + length a.edges.now * c.WIDTH.result ≡ data_at = rw (long, c.WIDTH.ensures) in
    written w m a.n xs a.parcel.now known c.first_not_rising-first.ensures answered
    (parcel_put w (4 + a.n * 8) data_at (take a.n m) xs (drop a.n m) a.parcel.now
    (simp length-take (omega arith)) (omega arith) (simp length-drop (omega arith))
    c.put_section.ensures c.put_section-2.ensures
    (c.put_section-3.ensures ∙ ap₂ (λ (k : ℕ) (d : List ℕ). sets c.put_section-2.new.s k (section_of 8 1 d)) at rest))
