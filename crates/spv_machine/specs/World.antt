-- A world as callers see it: its state, and the events that can be undone.
use Rattle.std.specs.Prelude.{◌≡◌, ◌≤◌, ℕ, List, ◌∷◌}
use Rattle.spv_base.specs.declared.happenings.Happening.{Happening}
use Rattle.spv_journal.specs.Events.{Event, fitting, size_of}
use Rattle.spv_journal.specs.Held.{Held as Recorded}
use Rattle.spv_journal.specs.Undo.{Moment, before, past}
use Rattle.spv_state.specs.State.{State}

-- the events that are kept, the newest first, and how many marks and entries there is room for
pub record Held : Type 0 where
  pub state : State
  pub ring : List Event
  pub limit : ℕ

-- a state whose changes are recorded, without the event that is being made
abbrev pub seen : Recorded → Held
seen r = record { state = r.state; ring = r.ring; limit = r.limit }

-- what happened at each event that is kept, and the state before it
abbrev pub past_of : Held → List Moment
past_of w = past w.ring w.state

-- An event was made and recorded: it leads back to the state before, it isn't larger than its weight, and of the events the newest are
-- kept that there is room for.
pub record IsRecorded (h : Happening) (weight : ℕ) (old new : Held) : Type 0 where
  pub event : Event
  pub happening : event.happening ≡ h
  pub leads : before event new.state ≡ old.state
  pub small : size_of event ≤ weight
  pub ring : new.ring ≡ fitting old.limit (event ∷ old.ring)
  pub limit : new.limit ≡ old.limit
