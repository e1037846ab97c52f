use Rattle.std.proofs.Common.{◌≡◌, ◌++◌, map, take}
use Rattle.spv_base.specs.Bits.{cell_bits}
use Rattle.spv_expr.specs.Bits.{bound}
use Rattle.spv_expr.proofs.cells.push_cell.Given as goal

abbrev pub invariant-loop-k : goal.invariant-loop-k
invariant-loop-k l = l.bits.items ≡ l.initial.bits.items ++ map bound (take l.k (cell_bits l.cell))
