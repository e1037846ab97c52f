use Rattle.std.proofs.Common.{ℕ, ◌<◌}
use Rattle.spv_order.specs.Order.{ArrivesAt}
use Rattle.spv_order.proofs.orders.arrival.Given as goal

abbrev pub invariant-loop-k : goal.invariant-loop-k
invariant-loop-k l = (j : ℕ) → j < l.k → ArrivesAt l.events j → ⊥
