-- A view: all that replies depend on, beside the settings of the probes. A group at a position of its run, the invocation and the frame
-- that replies speak of, what motions stop at, and which probes were dropped.
use Rattle.std.specs.Prelude.{◌≡◌, ◌⊎◌, ℕ, ◌-◌, Bool, List, [], ◌∷◌, ◌++◌, fold, set, Option, None}
use Rattle.spv_base.specs.declared.happenings.Happening.{Happening}
use Rattle.spv_stops.specs.declared.breaks.Breakpoint.{Breakpoint}
use Rattle.spv_stops.specs.Halts.{Halts, with_halt, without_halt}
use Rattle.spv_stops.specs.Watches.{WatchKey}
use Rattle.spv_stops.specs.Stops.{Stops, with_stop, without_stop}
use Rattle.spv_group.specs.Group.{Held as Group, Undoing, group_at}
use Rattle.spv_probe.specs.Kits.{Follows, tests_of}
use Rattle.spv_search.specs.Told.{Test}
use Rattle.spv_hits.specs.Halts.{told_before}

pub record View : Type 0 where
  pub group : Group
  pub focus : ℕ
  pub frame : ℕ  -- which of the focus's shown frames is selected, 0 for the innermost
  pub breaks : Stops Breakpoint
  pub watches : Stops WatchKey
  pub halts : Halts  -- a probe's number, and the multiples of its tally to stop at
  pub dropped : List ℕ  -- the numbers of the probes that were dropped, in the order in which they were

-- the view before the first command
abbrev pub first_view : Group → View
first_view g = record { group = g; focus = 0; frame = 0; breaks = ([], 0); watches = ([], 0); halts = []; dropped = [] }

-- the same view of another position
abbrev pub view_at : ℕ → View → View
view_at n v = record v { group = group_at n v.group }

-- all but the position is as in one of two views
abbrev pub IsEither : View → (old due : View) → Type 0
IsEither v old due = (v ≡ view_at v.group.position old) ⊎ (v ≡ view_at v.group.position due)

-- after a motion to a position; the innermost frame is selected then
abbrev pub moved_to : ℕ → View → View
moved_to n v = record v { group = group_at n v.group; frame = 0 }

-- the same position, with another focus and its innermost frame
abbrev pub focus_on : ℕ → View → View
focus_on i v = record v { focus = i; frame = 0 }

-- the same position and focus, with another of its shown frames
abbrev pub frame_on : ℕ → View → View
frame_on k v = record v { frame = k }

-- the same, with one break or watch more, or with one less
abbrev pub with_break : Breakpoint → View → View
with_break b v = record v { breaks = with_stop b v.breaks }

abbrev pub without_break : ℕ → View → View
without_break k v = record v { breaks = without_stop k v.breaks }

abbrev pub with_watch : WatchKey → View → View
with_watch w v = record v { watches = with_stop w v.watches }

abbrev pub without_watch : ℕ → View → View
without_watch k v = record v { watches = without_stop k v.watches }

-- the halt of a probe, or none of a probe that is dropped
abbrev pub with_halt_of : (k n : ℕ) → View → View
with_halt_of k n v = record v { halts = with_halt k n v.halts }

abbrev pub without_probe : ℕ → View → View
without_probe k v = record v { halts = without_halt k v.halts; dropped = v.dropped ++ k ∷ [] }

-- ---- probes

-- The settings of a kit: the test of each probe that was handed in, at its number. Those that were dropped since are left out.
abbrev pub Settings : Type 0
Settings = List (Option Test)

abbrev pub without_test : Settings → ℕ → Settings
without_test tests k = set tests (k - 1) None

abbrev pub tests_at : Settings → View → Settings
tests_at settings v = fold without_test settings v.dropped

-- The kit of a view has the probes that aren't dropped, with their settings, and each has counted the events before the position.
pub record IsKitOf {P : Type 0} (tally : P → ℕ) (test : P → Happening → Bool) (settings : Settings) (v : View) (boxes : List (Option P)) : Type 0 where
  pub tests : tests_of test boxes ≡ tests_at settings v
  pub counted : Follows tally test (tests_of test boxes) (told_before v.group) boxes

-- ---- what no reply depends on

-- A view, and beside it the least position to which its group goes back by undoing, and how many marks and entries of events the journal
-- keeps at most.
pub record Viewing : Type 0 where
  pub view : View
  pub kept : ℕ
  pub limit : ℕ

-- a group as it is viewed before the first command
abbrev pub first_viewing : Undoing → Viewing
first_viewing u = record { view = first_view u.group; kept = u.kept; limit = u.limit }

-- the group with what it can undo
abbrev pub undoing_in : Viewing → Undoing
undoing_in s = record { group = s.view.group; kept = s.kept; limit = s.limit }
