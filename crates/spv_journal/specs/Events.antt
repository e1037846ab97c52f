-- Events that are kept, and which of them a journal has room for.
use Rattle.std.specs.Prelude.{ℕ, suc, ◌+◌, ◌-◌, nat_le, if◌then◌else◌, List, [], ◌∷◌, Option, Some, None}
use Rattle.spv_base.specs.declared.happenings.Happening.{Happening}
use Rattle.spv_undo.specs.Entries.{count}
use Rattle.spv_undo.specs.declared.entries.Entry.{Entry}

-- what happened, and what undoes its changes, the newest first
pub record Event : Type 0 where
  pub happening : Happening
  pub changes : List Entry

-- the mark of an event, and its entries as they count
abbrev pub size_of : Event → ℕ
size_of v = suc (count v.changes)

abbrev pub size : List Event → ℕ
size [] = 0
size (v ∷ vs) = size_of v + size vs

-- Of events, the newest first, the longest front that there is room for: as many of the oldest go out whole as have to, and no more.
abbrev pub fitting : ℕ → List Event → List Event
fitting room [] = []
fitting room (v ∷ vs) = if nat_le (size_of v) room then v ∷ fitting (room - size_of v) vs else []

-- the events but for the newest
abbrev pub older : List Event → List Event
older [] = []
older (v ∷ vs) = vs

-- the newest
abbrev pub newest : List Event → Option Event
newest [] = None
newest (v ∷ vs) = Some v

-- an event that is being made, if there is one, before those that are kept
abbrev pub opened : Option Event → List Event → List Event
opened None vs = vs
opened (Some v) vs = v ∷ vs

-- The events that are kept, the newest first, the one that is being made, and how many marks and entries there is room for: what
-- callers see of a journal.
pub record Kept : Type 0 where
  pub ring : List Event
  pub gathered : Option Event
  pub limit : ℕ

-- an event that begins
abbrev pub begun : Happening → Option Event
begun h = Some (record { happening = h; changes = [] })

-- a change more of an event
abbrev pub pushed : Entry → Event → Event
pushed e v = record v { changes = e ∷ v.changes }
