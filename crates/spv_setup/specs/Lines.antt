-- The lines of a text: what its line feeds part. A carriage return before a line feed is dropped. What follows the last line
-- feed is a line too; where that is nothing, it is an empty one.
use Rattle.std.specs.Prelude.{◌≡◌, ◌<◌, ℕ, ◌-◌, ◌==◌, Bool, if◌then◌else◌, List, [], ◌∷◌, length, slice_index, take, Option, Some, None, suc}
use Rattle.std.specs.List.{slice_split}

-- a line feed is the byte 10
abbrev pub is_line_feed : ℕ → Bool
is_line_feed b = b == 10

-- a carriage return is the byte 13
abbrev pub without_return : List ℕ → List ℕ
without_return line = if slice_index line (length line - 1) == 13 then take (length line - 1) line else line

-- lines, of which a line feed ended all but the last
abbrev pub ended : List (List ℕ) → List (List ℕ)
ended [] = []
ended (last ∷ []) = last ∷ []
ended (line ∷ next ∷ lines) = without_return line ∷ ended (next ∷ lines)

abbrev pub lines_of : List ℕ → List (List ℕ)
lines_of text = ended (slice_split is_line_feed text)

-- the first line of a text, and the text after it, where a line feed ended the line
abbrev pub lines_in : Option (List ℕ) → List (List ℕ)
lines_in None = []
lines_in (Some text) = lines_of text

-- the bytes of what is left of a text, with the line feed before it
abbrev pub left_length : Option (List ℕ) → ℕ
left_length None = 0
left_length (Some text) = suc (length text)

pub record HasFirstLine (text line : List ℕ) (rest : Option (List ℕ)) : Type 0 where
  pub lines : lines_of text ≡ line ∷ lines_in rest
  pub fewer : left_length rest < suc (length text)
