-- Halts: at which multiples of its tally each probe stops a run.
use Rattle.std.specs.Prelude.{ℕ, ◌%◌, ◌==◌, ◌<◌, ◌&&◌, not, Bool, false, List, [], ◌∷◌, ◌++◌, filter, if◌then◌else◌}
use Rattle.std.specs.List.{list_any, All}
use Rattle.std.specs.Option.{option_map_or}
use Rattle.spv_base.specs.Entries.{reads, writes}
use Rattle.spv_stops.specs.Stops.{has_number}

-- the halts that are set, each after the number of its probe: the number of which the tally is to be a multiple
abbrev pub Halts : Type 0
Halts = List (ℕ × ℕ)

-- no halt asks for multiples of 0
abbrev pub AreHalts : Halts → Type 0
AreHalts halts = All (λ halt. 0 < halt.1) halts

-- with a halt of this probe, in the place of an earlier one of it
abbrev pub with_halt : (k n : ℕ) → Halts → Halts
with_halt k n halts = if list_any (has_number k) halts then writes k n halts else halts ++ (k, n) ∷ []

-- with no halt of this probe
abbrev pub without_halt : (k : ℕ) → Halts → Halts
without_halt k halts = filter (λ halt. not (has_number k halt)) halts

-- the probe has a halt, the event hits the probe, and the tally is a multiple of the halt's number
abbrev pub is_halted : (k : ℕ) (hits : Bool) (tally : ℕ) → Halts → Bool
is_halted k hits tally halts = hits && option_map_or (λ n. tally % n == 0) (reads k halts) false
