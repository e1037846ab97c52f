use Rattle.spv_order.specs.Touches.{AreTouches}
use Rattle.spv_order.proofs.touches.touches.Given as goal

abbrev pub invariant-loop-k : goal.invariant-loop-k
invariant-loop-k l = AreTouches l.events l.k l.touches.items
