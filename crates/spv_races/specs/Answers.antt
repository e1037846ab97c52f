-- What the order of the events of a stretch of a group's run is worth.
use Rattle.std.specs.Prelude.{ℕ, ◌<◌, ◌≤◌, List, Option, Some, None}
use Rattle.spv_exchanges.specs.Stretches.{AreEvents}
use Rattle.spv_group.specs.Group.{Held as Group, end_in, entries_in}
use Rattle.spv_group.specs.Run.{run}
use Rattle.spv_order.specs.Order.{IsOrder}
use Rattle.spv_order.specs.declared.events.Event.{Event}
use Rattle.spv_order.specs.declared.orders.Answer.{Answer}
use Rattle.spv_state.specs.Sound.{IsSound}

-- What their order is worth, each event told by how many of them stand before it; none exactly where the run ends before the second position.
abbrev pub IsOrderOf : Group → (from to : ℕ) → Option Answer → Type 0
IsOrderOf g from to None = end_in g < to
IsOrderOf g from to (Some answer) = (to ≤ end_in g) × ((events : List Event) × AreEvents g.program (entries_in g) from to events × IsOrder events answer)

-- the states from a position on, before another, are sound
abbrev pub AreSound : Group → (from to : ℕ) → Type 0
AreSound g from to = (n : ℕ) → from ≤ n → n < to → IsSound g.program (run g.program (entries_in g) n)

-- the events from a position on to another, where the run goes so far
pub record AreFound (g : Group) (from to : ℕ) (events : List Event) : Type 0 where
  pub within : to ≤ end_in g
  pub are : AreEvents g.program (entries_in g) from to events
  pub sound : AreSound g from to
