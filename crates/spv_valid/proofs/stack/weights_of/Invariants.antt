use Rattle.std.proofs.Common.{◌≡◌, ◌≤◌, ◌<◌, ℕ, drop, length, get_or}
use Rattle.spv_base.specs.Saturation.{saturated}
use Rattle.spv_valid.specs.Stack.{weight}
use Rattle.spv_valid.proofs.stack.weights_of.Given as goal

-- the cells from place i on are counted
abbrev pub invariant-back : goal.invariant-back
invariant-back l = record {
  small : l.i ≤ length l.kept;
  len : length l.weights.items ≡ l.count;
  weights : (f : ℕ) → f < l.count → get_or l.weights.items f 0 ≡ saturated (weight (drop l.i l.kept) f);
}

abbrev pub decreases-back : goal.decreases-back
decreases-back l = l.i
