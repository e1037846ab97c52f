-- On the way along the run of a group.
use Rattle.std.specs.Prelude.{◌≡◌, ◌+◌, ◌≤◌, ◌++◌, max, List, [], ◌∷◌, Bool, true, false, slice_index_or}
use Rattle.spv_group.specs.Group.{Held as Group, Undoing, end_in, entries_in, group_at, state_in, window_in}
use Rattle.spv_order.specs.declared.events.Event.{Event}
use Rattle.spv_state.specs.Sound.{IsSound}
use Rattle.spv_touch.specs.Touching.{IsEvent}

-- the same run, where it was or one event on
pub record IsForward (from to : Undoing) : Type 0 where
  pub same : to.group ≡ group_at to.group.position from.group
  pub limit : to.limit ≡ from.limit
  pub later : from.group.position ≤ to.group.position
  pub within : from.group.position ≤ end_in from.group → to.group.position ≤ end_in from.group
  pub kept : to.kept ≤ max from.kept (window_in to)

-- one event on, or the run is at its end
abbrev pub IsAdvanced : Bool → (from to : Group) → Type 0
IsAdvanced true from to = to.position ≡ from.position + 1
IsAdvanced false from to = end_in from ≤ from.position

-- the same, where the event was added to a list
pub record HasAdded (from to : Group) (old new : List Event) : Type 0 where
  pub position : to.position ≡ from.position + 1
  pub event : Event
  pub list : new ≡ old ++ event ∷ []
  pub is : IsEvent from.program (state_in from) (slice_index_or (entries_in from) from.position 0) event
  pub sound : IsSound from.program (state_in from)

abbrev pub IsAdded : Bool → (from to : Group) → (old new : List Event) → Type 0
IsAdded true from to old new = HasAdded from to old new
IsAdded false from to old new = end_in from ≤ from.position
