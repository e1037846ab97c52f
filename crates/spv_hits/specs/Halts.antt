-- Where halts hit: where the event before a position is one that its probe hits, and the probe's tally there is a multiple of the halt's
-- number.
use Rattle.std.specs.Prelude.{ℕ, ◌+◌, Bool, false, List, [], length, filter, map, Option, count_by}
use Rattle.std.specs.List.{range_with_len}
use Rattle.std.specs.Option.{option_map_or}
use Rattle.spv_base.specs.declared.happenings.Happening.{Happening}
use Rattle.spv_probe.specs.Kits.{place}
use Rattle.spv_stops.specs.Halts.{Halts, is_halted}
use Rattle.spv_group.specs.Group.{Held as Group, entries_in}
use Rattle.spv_group.specs.Run.{happenings_between}
use Rattle.spv_search.specs.Told.{Test}
use Rattle.spv_hits.specs.Breaks.{event_before}
use Rattle.spv_hits.specs.Happenings.{lined}

-- what probes were told before the position of a group: each event with its line
abbrev pub told_before : Group → List Happening
told_before g = map (lined g.program.accepted) (happenings_between g.program (entries_in g) 0 g.position)

-- how many of some events a probe hits; one that was dropped hits none
abbrev pub tally_of : Option Test → List Happening → ℕ
tally_of test events = option_map_or (λ hit. count_by hit events) test 0

abbrev pub is_hit : Option Test → Happening → Bool
is_hit test h = option_map_or (λ hit. hit h) test false

-- The halt of a probe hits behind an event. So many events that the probe hits are counted beside these.
abbrev pub halts_at : Halts → List (Option Test) → List Happening → (more : ℕ) → Happening → ℕ → Bool
halts_at halts tests events more h k = is_halted k (is_hit (place tests k) h) (tally_of (place tests k) events + more) halts

-- the numbers of the probes whose halts hit behind an event, ascending
abbrev pub halts_behind : Halts → List (Option Test) → List Happening → (more : ℕ) → Happening → List ℕ
halts_behind halts tests events more h = filter (halts_at halts tests events more h) (range_with_len 1 (length tests))

-- those that hit at the position of a group, by the event before it; at the start none does
abbrev pub halt_numbers : Halts → List (Option Test) → Group → List ℕ
halt_numbers halts tests g = option_map_or (λ h. halts_behind halts tests (told_before g) 0 (lined g.program.accepted h)) (event_before g) []
