use Rattle.std.proofs.Common.{◌≡◌, ℕ, ◌+◌, ◌≤◌, length, slice_get}
use Rattle.spv_expr.specs.Bits.{bits_of}
use Rattle.spv_expr.proofs.cells.settled.Given as goal

abbrev pub invariant-cells : goal.invariant-cells
invariant-cells l = record {
  same : (m : ℕ) → slice_get (bits_of l.rest.cells.now) (l.rest.bit + m) ≡ slice_get (bits_of l.initial.rest.cells.now) (l.initial.rest.bit + m);
  lower : l.rest.bit ≤ l.initial.rest.bit;
}

abbrev pub decreases-cells : goal.decreases-cells
decreases-cells l = length l.rest.cells.now
