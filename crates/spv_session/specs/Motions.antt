-- Motions: where they lead, and whether what was asked for is done there.
use Rattle.std.specs.Prelude.{ℕ, ◌==◌, ◌+◌, ◌-◌, min, ◌&&◌, ◌||◌, not, Bool, if◌then◌else◌, [], Option, Some, None, unwrap_or}
use Rattle.spv_group.specs.Group.{Held as Group, end_in, group_at}
use Rattle.spv_group.specs.Positions.{least_of, greatest_of}
use Rattle.spv_search.specs.Own.{own_forward, own_backward}
use Rattle.spv_search.specs.declared.commands.Forward.{Forward}
use Rattle.spv_search.specs.declared.commands.Backward.{Backward}
use Rattle.spv_search.specs.Keys.{tables_in}
use Rattle.spv_base.specs.declared.happenings.Happening.{Happening}
use Rattle.spv_dbg.specs.Tables.{Tables}
use Rattle.spv_stops.specs.Halts.{Halts}
use Rattle.spv_stops.specs.Stops.{Stops}
use Rattle.spv_stops.specs.Watches.{WatchKey}
use Rattle.spv_stops.specs.declared.breaks.Breakpoint.{Breakpoint}
use Rattle.spv_hits.specs.Breaks.{break_numbers, hitter}
use Rattle.spv_hits.specs.Halts.{halt_numbers}
use Rattle.spv_hits.specs.Watches.{watch_numbers}
use Rattle.spv_hits.specs.Hits as stops
use Rattle.spv_hits.specs.Hits.{has_some}
use Rattle.spv_session.specs.declared.causes.Hit.{Hit}
use Rattle.spv_session.specs.View.{Settings, View, moved_to}

-- a motion, and at which positions what it was asked for is done
pub data Motion : Type 0 where
  -- to the position that a number names, whatever hits before
  straight : (number : ℕ) → (done : ℕ → Bool) → Motion
  -- to the first position behind the view's with a hit or where this holds, else to the end
  forward : (ℕ → Bool) → Motion
  -- to the last position before the view's with a hit or where this holds, else to the start
  backward : (ℕ → Bool) → Motion

-- the position is another than the view's
abbrev pub has_moved : View → ℕ → Bool
has_moved v m = not (m == v.group.position)

-- ---- what commands ask for

-- Done is what met its number exactly: the position asked for, or so many events forward or back. Where nothing moved, only `goto` is.
abbrev pub goto_motion : ℕ → View → Motion
goto_motion n v = straight n (λ m. m == n)

abbrev pub fwd_motion : ℕ → View → Motion
fwd_motion n v = straight (v.group.position + n) (λ m. has_moved v m && m == v.group.position + n)

abbrev pub back_motion : ℕ → View → Motion
back_motion n v = straight (v.group.position - n) (λ m. has_moved v m && m + n == v.group.position)

-- a search for what a command asks for of the focus
abbrev pub search_on : Forward → View → Motion
search_on command v = forward (λ m. own_forward command v.focus v.group (group_at m v.group))

abbrev pub search_back : Backward → View → Motion
search_back command v = backward (λ m. own_backward command v.focus v.group (group_at m v.group))

-- ---- where motions lead

-- whether a break, a watch or a halt hits at a group's position, where the probes have these tests
abbrev pub hits_in : Stops Breakpoint → Stops WatchKey → Halts → (tests : Settings) → Group → Bool
hits_in breaks watches halts tests g = stops.hits (tables_in g) breaks watches g || has_some (halt_numbers halts tests g)

-- whether one of a view's hits at a position
abbrev pub hits : (tests : Settings) → View → ℕ → Bool
hits tests v m = hits_in v.breaks v.watches v.halts tests (group_at m v.group)

-- the position that a motion leads to, where these hit
abbrev pub target : (View → ℕ → Bool) → View → Motion → ℕ
target hit v (straight n done) = min n (end_in v.group)
target hit v (forward own) = least_of (λ m. hit v m || own m) (v.group.position + 1) (end_in v.group)
target hit v (backward own) = greatest_of (λ m. hit v m || own m) 0 v.group.position

abbrev pub is_done : View → Motion → ℕ → Bool
is_done v (straight n done) m = done m
is_done v (forward own) m = has_moved v m && own m
is_done v (backward own) m = has_moved v m && own m

-- ---- what motions stop for

abbrev pub no_hit : Hit
no_hit = record { breaks = []; watches = []; halts = [] }

-- the numbers of the breaks, of the watches and of the halts that hit at a group's position
abbrev pub hit_of : Tables → Stops Breakpoint → Stops WatchKey → Halts → (tests : Settings) → Group → Hit
hit_of t breaks watches halts tests g = record { breaks = break_numbers breaks g; watches = watch_numbers t watches g; halts = halt_numbers halts tests g }

abbrev pub hit_at : (tests : Settings) → View → ℕ → Hit
hit_at tests v m = hit_of (tables_in v.group) v.breaks v.watches v.halts tests (group_at m v.group)

-- Those that a motion stops for there. One to a number looks for none, and none is told where nothing moved.
abbrev pub hit_by : (tests : Settings) → View → Motion → ℕ → Hit
hit_by tests v (straight n done) m = no_hit
hit_by tests v _ m = if has_moved v m then hit_at tests v m else no_hit

-- the focus where a motion stops: where a break hit, the invocation of the event before, else as it was
abbrev pub focus_by : Hit → Group → ℕ → ℕ
focus_by hit g focus = if has_some hit.breaks then unwrap_or (hitter g) focus else focus

-- the view where a motion stops
abbrev pub stopped_at : ℕ → Hit → View → View
stopped_at m hit v = record (moved_to m v) { focus = focus_by hit (group_at m v.group) v.focus }

-- ---- as a search finds it

-- what hits where a search from a position stopped, by the event before that it tells; where it tells none, nothing does
abbrev pub hit_told : (from : ℕ) → Option Happening → (Group → Hit) → Group → Hit
hit_told from None hit g = no_hit
hit_told from (Some h) hit g = if not (g.position == from) then hit g else no_hit
