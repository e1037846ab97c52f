use Rattle.std.proofs.Common.{◌≡◌, length}
use Rattle.spv_expr.specs.Sizes.{AreSizes}
use Rattle.spv_expr.proofs.sizes.sizes_of.Given as goal

abbrev pub invariant-loop-number : goal.invariant-loop-number
invariant-loop-number l = record {
  long : length l.sizes.items ≡ l.number;
  sizes : AreSizes l.types l.sizes.items;
}
