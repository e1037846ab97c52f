-- The words of a line: what stands between its spaces.
use Rattle.std.specs.Prelude.{◌≡◌, ℕ, ◌+◌, ◌<◌, ◌≤◌, ◌==◌, not, Bool, true, List, [], ◌∷◌, length, filter}
use Rattle.std.specs.List.{slice_split, list_all}

-- a space is the byte 32; a tab or a carriage return is a byte of its word
abbrev pub is_space : ℕ → Bool
is_space b = b == 32

abbrev pub is_other : ℕ → Bool
is_other b = not (b == 32)

-- the words of a line are what stands between its spaces, but for what is empty
abbrev pub words_in : List ℕ → List (List ℕ)
words_in line = filter (λ word. not (length word == 0)) (slice_split is_space line)

-- a text has a first word, and this text after it
pub record HasFirstWord (text word rest : List ℕ) : Type 0 where
  pub words : words_in text ≡ word ∷ words_in rest
  pub some : 0 < length word
  pub whole : list_all is_other word ≡ true
  pub within : length word + length rest ≤ length text
  pub apart : 0 < length rest → length word + length rest < length text

-- a text has one word, and no other
pub record HasOnlyWord (text word : List ℕ) : Type 0 where
  pub words : words_in text ≡ word ∷ []
  pub whole : list_all is_other word ≡ true
  pub within : length word ≤ length text
