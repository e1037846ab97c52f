-- The lowest of some words.
use Rattle.std.specs.Prelude.{ℕ, List, [], ◌∷◌, Option, Some, None, min}

-- the lower of two words, or of two lines
abbrev pub lower : Option ℕ → Option ℕ → Option ℕ
lower None other = other
lower (Some word) None = Some word
lower (Some word) (Some other) = Some (min word other)

abbrev pub lowest : List ℕ → Option ℕ
lowest [] = None
lowest (word ∷ words) = lower (Some word) (lowest words)
