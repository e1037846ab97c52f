use Rattle.std.proofs.Common.{◌≡◌, ◌++◌, drop, map}
use Rattle.spv_expr.specs.Bits.{bits_of, bound}
use Rattle.spv_expr.proofs.cells.all_bits.Given as goal

abbrev pub invariant-loop-cell : goal.invariant-loop-cell
invariant-loop-cell l = l.bits.items ++ map bound (bits_of (drop l.cell-index l.cells)) ≡ map bound (bits_of l.cells)
