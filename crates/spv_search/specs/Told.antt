-- What probes are told of a run.
use Rattle.std.specs.Prelude.{◌≡◌, ℕ, ◌+◌, ◌≤◌, Bool, List, length, Option, Some, is_some}
use Rattle.std.specs.List.{list_any}
use Rattle.spv_base.specs.declared.happenings.Happening.{Happening}
use Rattle.spv_valid.specs.Acceptance.{Accepted}
use Rattle.spv_group.specs.Group.{Held as Group, end_in, entries_in}
use Rattle.spv_group.specs.Run.{happening_at, happenings_between}

-- which events a probe hits
abbrev pub Test : Type 0
Test = Happening → Bool

-- one of the probes wasn't dropped
abbrev pub has_probe : List (Option Test) → Bool
has_probe tests = list_any is_some tests

-- an event of a run of the module, by the position of a group
pub record IsEvent (a : Accepted) (h : Happening) (g : Group) : Type 0 where
  pub accepted : a ≡ g.program.accepted
  pub event : happening_at g.program (entries_in g) g.position ≡ Some h
  pub most : g.position ≤ 4194304

-- the events of a run of the module from the position of a group on, so many
pub record IsPast (a : Accepted) (happened : List Happening) (g : Group) : Type 0 where
  pub accepted : a ≡ g.program.accepted
  pub events : happened ≡ happenings_between g.program (entries_in g) g.position (g.position + length happened)
  pub within : g.position + length happened ≤ end_in g
  pub most : g.position + length happened ≤ 4194304
