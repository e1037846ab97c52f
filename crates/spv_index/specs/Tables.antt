-- Tables of entries under numbers.
use Rattle.std.specs.Prelude.{ℕ, List, length, Option, None, nat_lt, if◌then◌else◌, slice_index_or}

-- what stands under a number: what a list has at its place, where it is as long, and else what a map has under it
abbrev pub found : {V : Type 0} → List (Option V) → (ℕ → Option V) → ℕ → Option V
found low high k = if nat_lt k (length low) then slice_index_or low k None else high k
