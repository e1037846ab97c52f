-- Numbers under the names of files.
use Rattle.std.specs.Prelude.{ℕ, suc, Bool, if◌then◌else◌, List, [], ◌∷◌, Option, Some, None, Vec}
use Rattle.std.specs.BTreeMap.{BTreeMap, get_by}
use Rattle.std.specs.Cmp.Lexicographic.{slice_cmp}
use Rattle.std.specs.Ordering.{nat_cmp}
use Rattle.std.specs.declared.alloc.Global.{Global}

-- the number under the name with these bytes
abbrev pub number_under : BTreeMap (Vec ℕ Global) ℕ → List ℕ → Option ℕ
number_under names file = get_by (λ name. slice_cmp nat_cmp file name.items) names

-- the number of the first of some keys that passes a test, where the first of them has number n
abbrev pub number_from : ℕ → (ℕ → Bool) → List ℕ → Option ℕ
number_from n passes [] = None
number_from n passes (key ∷ keys) = if passes key then Some n else number_from (suc n) passes keys
