use Rattle.std.proofs.Common.{◌≡◌, ◌+◌, drop, length}
use Rattle.spv_expr.specs.Bits.{bits_of}
use Rattle.spv_expr.proofs.cells.count_bits.Given as goal

abbrev pub invariant-loop-cell : goal.invariant-loop-cell
invariant-loop-cell l = l.count + length (bits_of (drop l.cell-index l.cells)) ≡ length (bits_of l.cells)
