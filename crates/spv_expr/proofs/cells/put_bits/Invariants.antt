use Rattle.std.proofs.Common.{◌≡◌, ℕ, ◌+◌, ◌-◌, ◌≤◌, slice_get}
use Rattle.spv_expr.specs.Bits.{bits_of}
use Rattle.spv_expr.specs.Rests.{ArePut}
use Rattle.spv_expr.proofs.cells.put_bits.Given as goal

abbrev pub invariant-bits : goal.invariant-bits
invariant-bits l = record {
  same : (m : ℕ) → slice_get (bits_of l.rest.cells.now) (l.rest.bit + m) ≡ slice_get (bits_of l.cells) (l.from + (l.n - l.at) + m);
  lower : l.rest.bit ≤ l.from + (l.n - l.at);
  put : ArePut l.cells l.from l.initial.bits l.at l.n l.bits;
}
