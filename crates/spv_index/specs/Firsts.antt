-- What stands first under a number, and the first number under each of some keys, as the index keeps it.
use Rattle.std.specs.Prelude.{◌≡◌, ℕ, suc, ◌<◌, ◌≤◌, ◌==◌, if◌then◌else◌, List, [], ◌∷◌, length, Option, Some, None, slice_index_or}
use Rattle.std.specs.Option.{option_map}

-- the number of the first of some keys that is a certain one, where the first of them has number n
abbrev pub first_from : ℕ → List ℕ → ℕ → Option ℕ
first_from n [] key = None
first_from n (k ∷ ks) key = if k == key then Some n else first_from (suc n) ks key

-- what a list has at a place
abbrev pub slot : {V : Type 0} → List (Option V) → ℕ → Option V
slot slots number = slice_index_or slots number None

-- by key, the number of the first that is this one
pub record AreFirsts (keys : List ℕ) (numbers : List (Option ℕ)) : Type 0 where
  pub short : length numbers ≤ 1048576
  pub firsts : (key : ℕ) → key < 1048576 → slot numbers key ≡ first_from 0 keys key

-- the place of the first entry under a number, counted from 0
abbrev pub place_of : {V : Type 0} → List (ℕ × V) → ℕ → Option ℕ
place_of [] number = None
place_of (e ∷ es) number = if e.0 == number then Some 0 else option_map suc (place_of es number)
