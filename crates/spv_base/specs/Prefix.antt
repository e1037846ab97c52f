-- Lists that begin other lists.
use Rattle.std.specs.Prelude.{◌≡◌, ℕ, ◌<◌, List, ◌++◌, length}

-- ys begins with xs
abbrev pub IsPrefixOf : List ℕ → List ℕ → Type 0
IsPrefixOf xs ys = (rest : List ℕ) × (xs ++ rest ≡ ys)

-- ys begins with xs, and goes on
abbrev pub IsProperPrefixOf : List ℕ → List ℕ → Type 0
IsProperPrefixOf xs ys = (rest : List ℕ) × (0 < length rest) × (xs ++ rest ≡ ys)
