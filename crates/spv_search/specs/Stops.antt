-- Why a search ended at the position of a group.
use Rattle.std.specs.Prelude.{◌≡◌, ◌⊎◌, ℕ, ◌-◌, ◌==◌, ◌&&◌, ◌||◌, not, Bool, false, Option, Some, None}
use Rattle.spv_base.specs.declared.happenings.Happening.{Happening}
use Rattle.spv_group.specs.Group.{Held as Group, entries_in, group_at}
use Rattle.spv_group.specs.Run.{happening_before}
use Rattle.spv_search.specs.Own.{own_forward, own_backward}
use Rattle.spv_search.specs.Targets.{backward_target}
use Rattle.spv_search.specs.declared.hits.Looked.{Looked}
use Rattle.spv_search.specs.declared.commands.Forward.{Forward}
use Rattle.spv_search.specs.declared.commands.Backward.{Backward}
use Rattle.spv_search.specs.declared.commands.Stopped.{Stopped}

-- the group moved, and what the command asks for holds where it is now
abbrev pub done_forward : Forward → ℕ → (from to : Group) → Bool
done_forward command i from to = not (to.position == from.position) && own_forward command i from to

abbrev pub done_backward : Backward → ℕ → (from to : Group) → Bool
done_backward command i from to = not (to.position == from.position) && own_backward command i from to

-- The event before the position is told wherever something hits, and the position before it was noted. It isn't told where the group didn't
-- move, at the start, and elsewhere only if nothing hits.
abbrev pub IsTold : (noted : Group → Type 0) → (hit : Group → Bool) → (from to : Group) → Option Happening → Type 0
IsTold noted hit from to (Some h) = (happening_before to.program (entries_in to) to.position ≡ Some h) × noted (group_at (to.position - 1) to)
IsTold noted hit from to None = (to.position ≡ from.position) ⊎ ((to.position ≡ 0) ⊎ (hit to ≡ false))

-- ---- on the way

-- what is known of a position, where something hits or not, and what the command asks for holds or not
pub record IsLooked (hit own : Bool) (looked : Looked) : Type 0 where
  pub passes : looked.passes ≡ (hit || own)
  pub done : looked.done ≡ own

-- the event that led to a position, the position before it noted; none at the start
abbrev pub IsLed : (noted : Group → Type 0) → (to : Group) → Option Happening → Type 0
IsLed noted to (Some h) = (happening_before to.program (entries_in to) to.position ≡ Some h) × noted (group_at (to.position - 1) to)
IsLed noted to None = to.position ≡ 0

-- a search back ended at its target
pub record IsStop (noted : Group → Type 0) (hit : Group → Bool) (command : Backward) (i : ℕ) (from to : Group) (stopped : Stopped) : Type 0 where
  pub target : to.position ≡ backward_target hit command i from
  pub done : stopped.done ≡ done_backward command i from to
  pub event : IsTold noted hit from to stopped.event
