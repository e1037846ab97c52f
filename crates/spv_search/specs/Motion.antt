-- What the motions of a group by one event do in a search.
use Rattle.std.specs.Prelude.{◌≡◌, ◌+◌, ◌<◌, ◌≤◌, max, Option, Some, None, Result, Ok, Err}
use Rattle.spv_base.specs.declared.causes.NoMemory.{NoMemory}
use Rattle.spv_base.specs.declared.happenings.Happening.{Happening}
use Rattle.spv_group.specs.Group.{Undoing, end_in, entries_in, group_at, window_in}
use Rattle.spv_group.specs.Run.{happening_at}

-- the same run, one event on
pub record HasGone (h : Happening) (from to : Undoing) : Type 0 where
  pub same : to.group ≡ group_at (from.group.position + 1) from.group
  pub limit : to.limit ≡ from.limit
  pub before : from.group.position < end_in from.group
  pub event : happening_at from.group.program (entries_in from.group) from.group.position ≡ Some h
  pub kept : to.kept ≤ max from.kept (window_in to)

-- one event on, or none at the end
abbrev pub IsForth : Result (Option Happening) NoMemory → (from to : Undoing) → Type 0
IsForth (Ok (Some h)) from to = HasGone h from to
IsForth (Ok None) from to = (from.group.position ≡ end_in from.group) × (to ≡ from)
IsForth (Err e) from to = to ≡ from

-- the same run, one event back; what can be undone stays
pub record HasReturned (h : Happening) (from to : Undoing) : Type 0 where
  pub same : to.group ≡ group_at to.group.position from.group
  pub position : from.group.position ≡ to.group.position + 1
  pub limit : to.limit ≡ from.limit
  pub event : happening_at from.group.program (entries_in from.group) to.group.position ≡ Some h
  pub kept : to.kept ≡ from.kept
