-- The states that events lead back to.
use Rattle.std.specs.Prelude.{List, [], ◌∷◌, ⊤}
use Rattle.spv_base.specs.declared.happenings.Happening.{Happening}
use Rattle.spv_state.specs.State.{State}
use Rattle.spv_undo.specs.Undo.{CanUndoAll, undo_all}
use Rattle.spv_journal.specs.Events.{Event}

-- the state before an event
abbrev pub before : Event → State → State
before v s = undo_all v.happening.inv v.changes s

-- what happened, and the state before it
pub record Moment : Type 0 where
  pub happening : Happening
  pub state : State

-- what events lead back to from a state, the newest first
abbrev pub past : List Event → State → List Moment
past [] s = []
past (v ∷ vs) s = record { happening = v.happening; state = before v s } ∷ past vs (before v s)

-- the newest event, if there is one, may be undone
abbrev pub CanUndoNewest : List Event → State → Type 0
CanUndoNewest [] s = ⊤
CanUndoNewest (v ∷ vs) s = CanUndoAll v.happening.inv v.changes s

-- each event may be undone after those behind it
abbrev pub CanUnwind : List Event → State → Type 0
CanUnwind [] s = ⊤
CanUnwind (v ∷ vs) s = CanUndoAll v.happening.inv v.changes s × CanUnwind vs (before v s)
