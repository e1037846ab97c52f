use Rattle.std.proofs.Common.{◌≡◌, ◌∙◌, ◌<◌, ◌^◌, ℕ, List, ap, drop, length, subst, sym}
use Rattle.spv_base.specs.Parts.{part_at}
use Rattle.spv_base.specs.declared.instructions.Operand.{Operand}
use Rattle.spv_types.specs.Rows.{leaves}
use Rattle.spv_results.specs.Results.{numbers}
use Rattle.spv_results.proofs.CompositeCalls.{extract_row, extract_shape, row_is, start_is, whole_is}
use Rattle.spv_results.proofs.OperandTypes.{rest_is}
use Rattle.spv_results.proofs.composites.extract.Goals as goal

pub extract-requires : goal.extract-requires
extract-requires c =
    let short : length (leaves c.args.composite.now) < 2 ^ 64 = subst (λ (n : ℕ). n < 2 ^ 64) c.cells_in-cells.ensures c.cells_in-cells.type_inv in
    let path : c.in_ok-path.path ≡ numbers (drop 1 c.args.inst.now.operands) = c.in_ok-path.ensures ∙ ap numbers (rest_is c.as_slice.result.now 1 ∙ ap (λ (os : List Operand). drop 1 os) c.as_slice.ensures) in
    let whole = whole_is c.type_at.result c.unwrap_or-whole.result c.requires.rule.0 c.unwrap_or-whole.ensures (c.type_at.ensures ∙ c.requires.rule.1) in
    row_is c.args.composite.now c.in_ok-path.path (numbers (drop 1 c.args.inst.now.operands)) _ _ _ _ path
    (start_is c.args.accepted.now.types c.types.result.now c.unwrap_or-whole.result c.requires.rule.0 c.in_ok-path.path (numbers (drop 1 c.args.inst.now.operands)) c.cells_before-start.result c.cells_before-start.ensures c.types.ensures whole path)
    c.in_ok-make_room.ensures.room
    (extract_row c.args.accepted.now c.args.inst.now c.args.composite.now c.make_room.ensures.valid c.requires.rule c.requires.sized c.requires.composite short)

pub returns-clause-shape : goal.returns-clause-shape
returns-clause-shape c =
    let short : length (leaves c.args.composite.now) < 2 ^ 64 = subst (λ (n : ℕ). n < 2 ^ 64) c.cells_in-cells.ensures c.cells_in-cells.type_inv in
    let path : c.in_ok-path.path ≡ numbers (drop 1 c.args.inst.now.operands) = c.in_ok-path.ensures ∙ ap numbers (rest_is c.as_slice.result.now 1 ∙ ap (λ (os : List Operand). drop 1 os) c.as_slice.ensures) in
    extract_shape c.args.accepted.now c.args.inst.now c.args.composite.now c.extract.new.into c.make_room.ensures.valid c.requires.rule c.requires.sized c.requires.composite short
    (ap (part_at c.args.composite.now) (sym path) ∙ c.extract.ensures.value)
