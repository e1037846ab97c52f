use Rattle.std.proofs.Common.{◌∙◌, ap}
use Rattle.spv_types.specs.Types.{Types}
use Rattle.spv_consts.specs.Trees.{value_at}
use Rattle.spv_operands.proofs.ReadingLemmas.{constant_leaves}
use Rattle.spv_operands.proofs.constants.constant.Goals as goal

pub with_tree-requires : goal.with_tree-requires
with_tree-requires c =
    constant_leaves c.args.accepted.now c.args.id (record { ty = c.in_ok-row.row.ty; cells = c.in_ok-row.row.cells.now }) c.of_constant-tree.result.value c.insts-insts.ensures.valid c.in_ok-row.ensures
    (c.of_constant-tree.ensures ∙ ap (λ (ts : Types). value_at ts c.in_ok-row.row.ty c.in_ok-row.row.cells.now) c.types.ensures)
