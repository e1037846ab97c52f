-- The events of a stretch of a run, as far as their order matters, and exchanges of its entries.
use Rattle.std.specs.Prelude.{◌≡◌, ℕ, ◌+◌, ◌-◌, ◌≤◌, List, length, slice_get, slice_index_or, Some}
use Rattle.std.specs.List.{AllByRecursion}
use Rattle.spv_order.specs.declared.events.Event.{Event}
use Rattle.spv_touch.specs.Below.spv_state.specs.Program.{Program}
use Rattle.spv_group.specs.Run.{run}
use Rattle.spv_touch.specs.Touching.{IsEvent}

-- these are the events from a position of a run on to another, in their order
pub record AreEvents (p : Program) (entries : List ℕ) (from to : ℕ) (events : List Event) : Type 0 where
  pub count : length events ≡ to - from
  pub each : (k : ℕ) (e : Event) → slice_get events k ≡ Some e → IsEvent p (run p entries (from + k)) (slice_index_or entries (from + k) 0) e

-- each place and the next are positions from one on, before another
abbrev pub AreBetween : (from to : ℕ) → List ℕ → Type 0
AreBetween from to places = AllByRecursion (λ k. (from ≤ k) × (k + 2 ≤ to)) places
