use Rattle.std.proofs.Common.{◌-◌, ℕ, ◌<◌, ◌≤◌}
use Rattle.spv_order.specs.Sweep.{Clashes, IsFree}
use Rattle.spv_order.proofs.search.turning.Given as goal

abbrev pub invariant-loop-low : goal.invariant-loop-low
invariant-loop-low l = record {
  below : l.low < l.high;
  most : l.high ≤ l.fn.high;
  free : (a : ℕ) → IsFree l.touches l.low l.also a;
  clash : (a : ℕ) × Clashes l.touches l.high l.also a;
}

abbrev pub decreases-loop-low : goal.decreases-loop-low
decreases-loop-low l = l.high - l.low
