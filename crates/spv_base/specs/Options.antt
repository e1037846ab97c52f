-- Numbers that may be there.
use Rattle.std.specs.Prelude.{ℕ, Option, Some, None, Bool, false, ◌==◌}

-- a number is there, and is this one
abbrev pub holds : ℕ → Option ℕ → Bool
holds n None = false
holds n (Some m) = m == n
