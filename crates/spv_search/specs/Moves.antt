-- What events do to one of the invocations. Position n is behind the events 0 to n - 1, so the event before it is event n - 1.
use Rattle.std.specs.Prelude.{ℕ, ◌==◌, ◌&&◌, not, Bool, true, false, length}
use Rattle.std.specs.List.{filter}
use Rattle.std.specs.Option.{option_map_or}
use Rattle.spv_base.specs.declared.happenings.Happening.{Happening}
use Rattle.spv_base.specs.declared.happenings.Kind.{Kind}
use Rattle.spv_base.specs.declared.happenings.Kind.TheVariants as kind
use Rattle.spv_group.specs.Group.{Held as Group, entries_in}
use Rattle.spv_group.specs.Run.{happening_at, happening_before, happenings_between, is_idle}

-- ---- one event

-- at a barrier, which opens then or doesn't
abbrev pub is_arrival : Kind → Bool
is_arrival kind.Arrive = true
is_arrival kind.Opened = true
is_arrival _ = false

-- it is an event of the invocation, and isn't idle
abbrev pub moves : ℕ → Happening → Bool
moves i h = h.inv == i && not (is_idle h.kind)

-- it moves the invocation, and is no arrival at a barrier
abbrev pub lands : ℕ → Happening → Bool
lands i h = moves i h && not (is_arrival h.kind)

-- ---- events around the position of a group

-- the event before it moves the invocation; there is none before 0
abbrev pub has_moved : Group → ℕ → Bool
has_moved g i = option_map_or (moves i) (happening_before g.program (entries_in g) g.position) false

-- the event before it lands the invocation
abbrev pub has_landed : Group → ℕ → Bool
has_landed g i = option_map_or (lands i) (happening_before g.program (entries_in g) g.position) false

-- the event at it, which is the next one, moves the invocation
abbrev pub moves_next : Group → ℕ → Bool
moves_next g i = option_map_or (moves i) (happening_at g.program (entries_in g) g.position) false

-- how many of the events from position k on to position n move the invocation
abbrev pub moves_between : Group → ℕ → (k n : ℕ) → ℕ
moves_between g i k n = length (filter (moves i) (happenings_between g.program (entries_in g) k n))
