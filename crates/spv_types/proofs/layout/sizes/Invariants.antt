use Rattle.std.proofs.Common.{◌≡◌, length}
use Rattle.spv_types.specs.Measured.{AreSizes}
use Rattle.spv_types.proofs.layout.sizes.Given as goal

-- the sizes so far
abbrev pub invariant-loop-n : goal.invariant-loop-n
invariant-loop-n l = record {
  sizes : AreSizes l.types l.sizes.items;
  count : length l.sizes.items ≡ l.n;
}
