-- Where breaks hit: where the event before a position lands its own invocation on a head of their lines.
use Rattle.std.specs.Prelude.{ℕ, List, [], Option, option_map, if◌then◌else◌}
use Rattle.std.specs.Option.{option_map_or}
use Rattle.spv_base.specs.declared.happenings.Happening.{Happening}
use Rattle.spv_frame.specs.Frames.{Held as Frame}
use Rattle.spv_state.specs.State.{top_of}
use Rattle.spv_stops.specs.Breaks.{hits_at}
use Rattle.spv_stops.specs.Stops.{Stops}
use Rattle.spv_stops.specs.declared.breaks.Breakpoint.{Breakpoint}
use Rattle.spv_group.specs.Group.{Held as Group, entries_in, state_in}
use Rattle.spv_group.specs.Run.{happening_before}
use Rattle.spv_search.specs.Moves.{lands}

-- the event before the position; there is none before 0
abbrev pub event_before : Group → Option Happening
event_before g = happening_before g.program (entries_in g) g.position

-- the numbers of the breaks with a head where the top frame of an invocation stands; a finished one has none
abbrev pub breaks_under : Stops Breakpoint → Group → ℕ → List ℕ
breaks_under breaks g i = option_map_or (λ (f : Frame). hits_at f.pc breaks) (top_of (state_in g) i) []

-- the numbers of the breaks that an event hits, behind which the group is
abbrev pub breaks_hit : Stops Breakpoint → Group → Happening → List ℕ
breaks_hit breaks g h = if lands h.inv h then breaks_under breaks g h.inv else []

-- the numbers of the breaks that hit
abbrev pub break_numbers : Stops Breakpoint → Group → List ℕ
break_numbers breaks g = option_map_or (breaks_hit breaks g) (event_before g) []

-- the invocation that hits them
abbrev pub hitter : Group → Option ℕ
hitter g = option_map (λ (h : Happening). h.inv) (event_before g)
