-- Whether breaks and watches hit at the position of a group.
use Rattle.std.specs.Prelude.{ℕ, ◌||◌, Bool, true, false, List, [], ◌∷◌}
use Rattle.spv_dbg.specs.Tables.{Tables}
use Rattle.spv_stops.specs.Stops.{Stops}
use Rattle.spv_stops.specs.Watches.{WatchKey}
use Rattle.spv_stops.specs.declared.breaks.Breakpoint.{Breakpoint}
use Rattle.spv_group.specs.Group.{Held as Group}
use Rattle.spv_hits.specs.Breaks.{break_numbers}
use Rattle.spv_hits.specs.Watches.{watch_numbers}

-- there are numbers in a list
abbrev pub has_some : List ℕ → Bool
has_some [] = false
has_some (n ∷ ns) = true

-- a break or a watch hits
abbrev pub hits : Tables → Stops Breakpoint → Stops WatchKey → Group → Bool
hits t breaks watches g = has_some (break_numbers breaks g) || has_some (watch_numbers t watches g)
