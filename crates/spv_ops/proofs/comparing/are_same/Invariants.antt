use Rattle.std.proofs.Common.{◌≡◌, length}
use Rattle.spv_ops.proofs.comparing.are_same.Given as goal

abbrev pub invariant-loop-rest_a : goal.invariant-loop-rest_a
invariant-loop-rest_a l = record {
  so : l.rest_a ≡ l.rest_b → l.a ≡ l.b;
  only : l.a ≡ l.b → l.rest_a ≡ l.rest_b;
}

abbrev pub decreases-loop-rest_a : goal.decreases-loop-rest_a
decreases-loop-rest_a l = length l.rest_a
