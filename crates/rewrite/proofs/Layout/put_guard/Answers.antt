-- `Layout::put_guard` meets its contract: the six words are those of the guard (`Bodies`), copied into their part of the place (`Laying`).
use Rattle.std.proofs.Common.{◌≡◌, ◌-◌, arith, rules}
use mathlib.Core.Path.{◌∙◌}
use Rattle.rewrite.proofs.Bodies.{jump_room, jump_put}
use Rattle.rewrite.proofs.Laying.{part_length}
use Rattle.rewrite.proofs.Moved.{first_small}
use Rattle.rewrite.proofs.Layout.put_guard.Goals as goal

pub overflow_add-first : goal.overflow_add-first
overflow_add-first c = omega (arith, first_small c.args.self.now.bare.total c.args.self.now.guard)

pub overflow_sub-end : goal.overflow_sub-end
overflow_sub-end c = omega (arith, c.block_end-end.ensures.0, jump_room c.args.self.now.bare.passed c.requires.0 c.requires.1)

pub copy_from_slice-requires : goal.copy_from_slice-requires
copy_from_slice-requires c =
    let end = c.block_end-end.ensures in
    let room = jump_room c.args.self.now.bare.passed c.requires.0 c.requires.1 in
    part_length 6 c.args.code.now c.block_end-end.result (omega (arith, end.0, room)) (omega (arith, end.2, c.requires.3))

pub returns : goal.returns
returns c =
    let s = c.args.self.now in
    let room = jump_room s.bare.passed c.requires.0 c.requires.1 in
    let end = c.block_end-end.ensures in
    let six : c.block_end-end.result - (c.block_end-end.result - 6) ≡ 6 = omega (arith, end.0, room) in
    rw (c.copy_from_slice.ensures.after, six, c.from.ensures, c.of_word-register.ensures)
    (jump_put s.bare.passed c.requires.0 _ _ s.mapped c.requires.1 s.guard (c.target_of-id.ensures.is ∙ (c.requires.2 c.requires.1).1) (search rules)
    (omega (arith, end.0, room)) (omega (arith, end.0, end.2, room, c.requires.3)))
