use Rattle.std.proofs.Common.{arith, subst}
use Rattle.spv_base.specs.Cell.{IsCell}
use Rattle.spv_expr.proofs.CellLemmas.{count_small}
use Rattle.spv_expr.proofs.cells.cell_bit.Goals as goal

pub overflow_shr-result : goal.overflow_shr-result
overflow_shr-result c = omega (arith, count_small c.args.cell (subst IsCell c.cell.view_is c.cell.invariant), c.requires)
