-- Calls that were inlined, as they are kept: each with the number of the one around it, which stands before.
use Rattle.std.specs.Prelude.{◌≡◌, ℕ, suc, nat_eq, nat_lt, if◌then◌else◌, Bool, List, [], ◌∷◌, ◌++◌, length, reverse, slice_index, unwrap_or, Option, Some, None}
use Rattle.std.specs.Option.{option_eq}
use Rattle.spv_base.specs.Entries.{reads}
use Rattle.spv_scopes.specs.declared.calls.Linked.{Linked}
use Rattle.spv_scopes.specs.declared.places.Place.{Place}
use Rattle.spv_scopes.specs.Spots.{Spot, nowhere}

abbrev pub is_number : Option ℕ → ℕ → Bool
is_number call n = option_eq nat_eq call (Some n)

-- how many calls can be met from the one with a number outward
abbrev pub rank : Option ℕ → ℕ
rank None = 0
rank (Some n) = suc n

-- the calls from the one with a number outward, where all are given from the last one back
abbrev pub calls_from : List Linked → Option ℕ → List Place
calls_from [] call = []
calls_from (k ∷ ks) call = (if is_number call (length ks) then k.place ∷ [] else []) ++ calls_from ks (if is_number call (length ks) then k.call else call)

-- the number of an outer call, where it stands before the one with a number
abbrev pub before : ℕ → Option ℕ → Option ℕ
before n None = None
before n (Some outer) = if nat_lt outer n then Some outer else None

-- a call and those around it
abbrev pub calls_behind : List Linked → Option Linked → List Place
calls_behind calls None = []
calls_behind calls (Some k) = k.place ∷ calls_from calls k.call

-- a place with the calls around it
abbrev pub seen_at : List Linked → Linked → Spot
seen_at calls k = record { place = k.place; calls = calls_from (reverse calls) k.call }

-- what is kept under a word
abbrev pub seen : List Linked → ℕ × Linked → ℕ × Spot
seen calls e = (e.0, seen_at calls e.1)

-- what is kept of the instruction at a word
abbrev pub kept_at : List (ℕ × Linked) → ℕ → Linked
kept_at entries word = unwrap_or (reads word entries) (record { place = nowhere.place; call = None })

-- what stands under a call's number, and 0 where nothing does
abbrev pub count_in : List ℕ → Option ℕ → ℕ
count_in counts None = 0
count_in counts (Some n) = slice_index counts n

-- under each call's number stands how many calls there are from it outward
abbrev pub AreCounted : List Linked → List ℕ → Type 0
AreCounted calls counts = (call : Option ℕ) → count_in counts call ≡ length (calls_from (reverse calls) call)
