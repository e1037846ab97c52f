use Rattle.std.proofs.Common.{◌≡◌, ◌∙◌, ℕ, List, ap, drop, refl, subst, sym}
use Rattle.spv_base.specs.Parts.{with_part}
use Rattle.spv_base.specs.declared.instructions.Operand.{Operand}
use Rattle.spv_results.specs.Operands.{IsResult}
use Rattle.spv_results.specs.Results.{numbers}
use Rattle.spv_results.proofs.CompositeCalls.{inserts, row_is, start_is}
use Rattle.spv_results.proofs.OperandTypes.{rest_is}
use Rattle.spv_results.proofs.composites.insert.Goals as goal

pub insert-requires-clause-place : goal.insert-requires-clause-place
insert-requires-clause-place c =
    let path : c.in_ok-path.path ≡ numbers (drop 2 c.args.inst.now.operands) = c.in_ok-path.ensures ∙ ap numbers (rest_is c.as_slice.result.now 2 ∙ ap (λ (os : List Operand). drop 2 os) c.as_slice.ensures) in
    row_is c.args.composite.now c.in_ok-path.path (numbers (drop 2 c.args.inst.now.operands)) _ _ _ _ path
    (start_is c.args.accepted.now.types c.types.result.now c.args.inst.now.ty c.args.inst.now.ty c.in_ok-path.path (numbers (drop 2 c.args.inst.now.operands)) c.cells_before-start.result c.cells_before-start.ensures c.types.ensures refl path)
    refl
    (inserts c.args.accepted.now c.args.inst.now c.args.object.now c.args.composite.now c.make_room.ensures.valid c.requires.rule c.requires.sized c.requires.object c.requires.composite).place

pub insert-requires-clause-room : goal.insert-requires-clause-room
insert-requires-clause-room c =
    c.in_ok-make_room.ensures.room
    ∙ (inserts c.args.accepted.now c.args.inst.now c.args.object.now c.args.composite.now c.make_room.ensures.valid c.requires.rule c.requires.sized c.requires.object c.requires.composite).room

pub returns-clause-shape : goal.returns-clause-shape
returns-clause-shape c =
    let path : c.in_ok-path.path ≡ numbers (drop 2 c.args.inst.now.operands) = c.in_ok-path.ensures ∙ ap numbers (rest_is c.as_slice.result.now 2 ∙ ap (λ (os : List Operand). drop 2 os) c.as_slice.ensures) in
    subst (IsResult c.args.accepted.now c.args.inst.now) (sym (c.insert.ensures.value ∙ ap (λ (p : List ℕ). with_part c.args.composite.now p c.args.object.now) path))
    (inserts c.args.accepted.now c.args.inst.now c.args.object.now c.args.composite.now c.make_room.ensures.valid c.requires.rule c.requires.sized c.requires.object c.requires.composite).shape
