use Rattle.std.proofs.Common.{◌≡◌, length}
use Rattle.spv_hits.proofs.places.same_leaves.Given as goal

abbrev pub invariant-leaves : goal.invariant-leaves
invariant-leaves l = l.a ≡ l.b → l.fn.a ≡ l.fn.b

abbrev pub decreases-leaves : goal.decreases-leaves
decreases-leaves l = length l.a
