-- The first event that arrives at a barrier.
use Rattle.std.specs.Prelude.{◌<◌, ◌≤◌, ℕ, List, length}
use Rattle.spv_order.specs.declared.events.Event.{Event}
use Rattle.spv_order.specs.Order.{ArrivesAt}

-- no event before this place arrives, and the one there does where there is one
abbrev pub IsFirstArrival : List Event → ℕ → Type 0
IsFirstArrival events n = (n ≤ length events) × ((k : ℕ) → k < n → ArrivesAt events k → ⊥) × (n < length events → ArrivesAt events n)
