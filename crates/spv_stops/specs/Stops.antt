-- Lists of stops, each under a number that no other stop had before it.
use Rattle.std.specs.Prelude.{ℕ, ◌+◌, ◌<◌, ◌≤◌, ◌==◌, nat_le, not, ◌||◌, Bool, List, [], ◌∷◌, ◌++◌, length, map, filter, Result, Ok, Err, if◌then◌else◌}
use Rattle.std.specs.List.{list_any}
use Rattle.spv_base.specs.declared.causes.CmdRefusal.{CmdRefusal}

-- the stops that are kept, each after its number, and the last number that was given (0 before the first)
abbrev pub Stops : Type 0 → Type 0
Stops T = List (ℕ × T) × ℕ

abbrev pub number_of : {T : Type 0} → ℕ × T → ℕ
number_of stop = stop.0

abbrev pub has_number : {T : Type 0} → ℕ → ℕ × T → Bool
has_number k stop = stop.0 == k

-- a stop with this number is kept
abbrev pub is_kept : {T : Type 0} → ℕ → Stops T → Bool
is_kept k stops = list_any (has_number k) stops.0

-- the list keeps as many stops as it may, or has given the number 4,294,967,295
abbrev pub is_full : {T : Type 0} → ℕ → Stops T → Bool
is_full limit stops = nat_le limit (length stops.0) || (stops.1 == 4294967295)

-- what is due to a new stop: the next number, or C9
abbrev pub next_number : {T : Type 0} → ℕ → Stops T → Result ℕ CmdRefusal
next_number limit stops = if is_full limit stops then Err (record { code = 9 }) else Ok (stops.1 + 1)

-- one stop more, under the next number
abbrev pub with_stop : {T : Type 0} → T → Stops T → Stops T
with_stop stop stops = (stops.0 ++ (stops.1 + 1, stop) ∷ [], stops.1 + 1)

-- the stops but for the one with this number, which no other gets
abbrev pub without_stop : {T : Type 0} → ℕ → Stops T → Stops T
without_stop k stops = (filter (λ stop. not (has_number k stop)) stops.0, stops.1)

-- numbers ascend, above the first and up to the last
abbrev pub Ascend : ℕ → List ℕ → ℕ → Type 0
Ascend low [] high = low ≤ high
Ascend low (k ∷ ks) high = (low < k) × Ascend k ks high

-- at most so many stops are kept, their numbers ascend, and each was given
abbrev pub AreStops : {T : Type 0} → ℕ → Stops T → Type 0
AreStops limit stops = (length stops.0 ≤ limit) × Ascend 0 (map number_of stops.0) stops.1 × (stops.1 ≤ 4294967295)
