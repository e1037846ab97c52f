-- The events of a journal's rings, of which one has their marks and the other the changes that don't lie in the marks.
use Rattle.std.specs.Prelude.{◌≡◌, ◌≤◌, ◌<◌, ◌+◌, ◌^◌, ℕ, suc, List, [], ◌∷◌, ◌++◌, drop, length, take, Bool, true, false, Option, None, Some}
use Rattle.spv_journal.specs.Events.{Event, size}
use Rattle.spv_undo.specs.Entries.{count}
use Rattle.spv_journal.specs.Marks.{Marked}
use Rattle.spv_undo.specs.declared.entries.Entry.{Entry}

-- ---- one event

-- those of its changes that lie in its mark come before the others: they are newer
abbrev pub event_of : Marked → List Entry → Event
event_of m es = record { happening = m.happening; changes = m.items ++ es }

-- what a mark counts, with the entries that it stands for
abbrev pub mark_size : Marked → ℕ
mark_size m = suc (count m.items)

-- the event that is being made, if one is
abbrev pub made : Bool → Marked → List Entry → Option Event
made false m es = None
made true m es = Some (event_of m es)

-- ---- two rings

-- The events of marks, the newest first, and of changes: those of an event stand together, as many as its mark says, before those of
-- the older ones.
abbrev pub events : List Marked → List Entry → List Event
events [] es = []
events (m ∷ ms) es = event_of m (take m.beside es) ∷ events ms (drop m.beside es)

-- how many changes stand beside marks
abbrev pub beside : List Marked → ℕ
beside [] = 0
beside (m ∷ ms) = m.beside + beside ms

-- ---- what callers see of them

-- the events, the newest first, and how many marks and entries there is room for
pub record Ringed : Type 0 where
  pub events : List Event
  pub limit : ℕ

-- Marks and changes with room for so many have all changes that the marks say and no more, and what they keep is counted and within.
-- There is room for less than 2 ^ 32, so that a mark says in 32 bits how many changes lie beside it.
pub record IsRing (ms : List Marked) (es : List Entry) (limit held : ℕ) : Type 0 where
  pub whole : length es ≡ beside ms
  pub entries : held ≡ size (events ms es)
  pub fits : size (events ms es) ≤ limit
  pub counted : limit < 2 ^ 32

-- the events but for the oldest
abbrev pub but_oldest : List Event → List Event
but_oldest [] = []
but_oldest (v ∷ []) = []
but_oldest (v ∷ u ∷ vs) = v ∷ but_oldest (u ∷ vs)
