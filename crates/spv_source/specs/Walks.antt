-- A walk through a text, where the bytes of a line that isn't shown needn't be kept.
use Rattle.std.specs.Prelude.{ℕ, ◌==◌, if◌then◌else◌, List, [], ◌∷◌, ◌++◌, length, filter}
use Rattle.std.specs.List.{enumerate_from, flat_map}
use Rattle.std.specs.Str.Lines.{strip_carriage_return}
use Rattle.spv_source.specs.declared.walks.Walk.{Walk}
use Rattle.spv_source.specs.Windows.{is_near, row_text}

-- the lines of a text, where these bytes of the first one stand before it; LF is 10
abbrev pub lines_after : List ℕ → List ℕ → List (List ℕ)
lines_after begun [] = if length begun == 0 then [] else begun ∷ []
lines_after begun (byte ∷ bytes) = if byte == 10 then strip_carriage_return begun ∷ lines_after [] bytes else lines_after (begun ++ byte ∷ []) bytes

-- what is shown of lines of which the first has a number
abbrev pub shown_from : ℕ → ℕ → List (List ℕ) → List ℕ
shown_from line n lines = flat_map (row_text line) (filter (λ numbered. is_near line numbered.0) (enumerate_from n lines))

-- all that is shown, where so much of the text is left
abbrev pub shown_after : Walk → List ℕ → List ℕ
shown_after w left = w.rows.items ++ shown_from w.line w.number (lines_after w.begun.items left)
