use Rattle.std.proofs.Common.{◌≡◌, ◌<◌, ◌++◌, ℕ, map, take, get_or}
use Rattle.spv_order.specs.Touches.{touch_of}
use Rattle.spv_order.specs.declared.events.Leaves.{Leaves}
use Rattle.spv_order.proofs.touches.add.Given as goal

abbrev pub invariant-loop-range : goal.invariant-loop-range
invariant-loop-range l = record {
  more : l.touches.items ≡ l.fn.touches.items ++ map (touch_of l.event l.invocation l.writes) (take l.range-index l.ranges);
  fits : (j : ℕ) (d : Leaves) → j < l.range-index → (get_or l.ranges j d).end < 4294967296;
}
