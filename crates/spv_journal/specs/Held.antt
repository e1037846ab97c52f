-- What callers see of a state whose changes are recorded.
use Rattle.std.specs.Prelude.{◌≡◌, ◌≤◌, ◌+◌, ℕ, List, ◌∷◌, Option, None, option_map}
use Rattle.std.specs.Option.{IsSomeAnd, option_map_or}
use Rattle.spv_base.specs.declared.happenings.Happening.{Happening}
use Rattle.spv_state.specs.State.{State}
use Rattle.spv_journal.specs.Events.{Event, begun, fitting, newest, older, opened}
use Rattle.spv_undo.specs.Entries.{count}
use Rattle.spv_journal.specs.Undo.{Moment, before, past}

-- a state beside what a journal keeps
pub record Held : Type 0 where
  pub state : State
  pub ring : List Event
  pub gathered : Option Event
  pub limit : ℕ

-- what the events lead back to
abbrev pub past_of : Held → List Moment
past_of w = past (opened w.gathered w.ring) w.state

-- an event of an invocation is being made
abbrev pub IsMaking : Option Event → ℕ → Type 0
IsMaking o i = IsSomeAnd o (λ (v : Event). v.happening.inv ≡ i)

-- how much its entries count
abbrev pub changes_in : Option Event → ℕ
changes_in o = option_map_or (λ (v : Event). count v.changes) o 0

-- ---- an event that begins

abbrev pub marked : Happening → Held → Held
marked h w = record w { gathered = begun h }

-- ---- an event that is made

abbrev pub sealed : Held → Held
sealed w = record w { ring = fitting w.limit (opened w.gathered w.ring); gathered = None }

-- ---- an event that is undone

abbrev pub unwound : Held → Held
unwound w = record w {
  state = option_map_or (λ v. before v w.state) (newest (opened w.gathered w.ring)) w.state;
  ring = older (opened w.gathered w.ring);
  gathered = None;
}

-- ---- a change that is recorded

-- The events lead back to the same states. Those that are kept stay, and the entries of the one that is being made count at most n more.
pub record Records (n : ℕ) (old new : Held) : Type 0 where
  pub past : past_of new ≡ past_of old
  pub ring : new.ring ≡ old.ring
  pub limit : new.limit ≡ old.limit
  pub happening : option_map (λ (v : Event). v.happening) new.gathered ≡ option_map (λ (v : Event). v.happening) old.gathered
  pub changes : changes_in new.gathered ≤ changes_in old.gathered + n

-- ---- an event that is made at once

-- It is kept before the others, of which as many go as have to. It leads back to the state before, and its entries count at most n.
pub record KeepsEvent (n : ℕ) (h : Happening) (old new : Held) : Type 0 where
  pub event : Event
  pub happening : event.happening ≡ h
  pub leads : before event new.state ≡ old.state
  pub few : count event.changes ≤ n
  pub ring : new.ring ≡ fitting old.limit (event ∷ old.ring)
  pub gathered : new.gathered ≡ None
  pub limit : new.limit ≡ old.limit
