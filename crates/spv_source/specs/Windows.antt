-- The lines around a line of a text, as they are shown: numbered from 1, with a mark at the line itself.
use Rattle.std.specs.Prelude.{ℕ, ◌+◌, ◌-◌, nat_le, ◌==◌, ◌&&◌, ◌||◌, Bool, if◌then◌else◌, List, [], ◌∷◌, ◌++◌, length, filter, replicate, codes, decimal, Option, Some, None}
use Rattle.std.specs.List.{enumerate_from, flat_map}
use Rattle.std.specs.Str.Lines.{lines}

-- a line is the one around which lines are shown, or at most two before or after it
abbrev pub is_near : ℕ → ℕ → Bool
is_near line n = nat_le line (n + 2) && nat_le n (line + 2)

-- The lines of a text that are near a line, each with its number. Lines are those of std: each ends at LF, a CR right before that isn't part
-- of it, and what follows the last LF is a line where it isn't empty.
abbrev pub window : ℕ → List ℕ → List (ℕ × List ℕ)
window line text = filter (λ numbered. is_near line numbered.0) (enumerate_from 1 (lines text))

-- a number with as many spaces, which are 32, before it as make 6 places
abbrev pub right_aligned : ℕ → List ℕ
right_aligned n = replicate (6 - length (decimal n)) 32 ++ decimal n

-- `>` at the line itself, and a space at any other
abbrev pub mark : ℕ → ℕ → List ℕ
mark line n = if n == line then codes ">" else codes " "

-- a line as it is shown: its number, the mark, a space, its text, and LF, which is 10
abbrev pub row_text : ℕ → ℕ × List ℕ → List ℕ
row_text line numbered = right_aligned numbered.0 ++ mark line numbered.0 ++ codes " " ++ numbered.1 ++ 10 ∷ []

-- what is shown of a text around a line; nothing where there is no line, which is line 0, or no line of the window
abbrev pub lines_around : ℕ → List ℕ → Option (List ℕ)
lines_around line text = if line == 0 || length (window line text) == 0 then None else Some (flat_map (row_text line) (window line text))

-- the same, and nothing where there is no text
abbrev pub source_lines : ℕ → Option (List ℕ) → Option (List ℕ)
source_lines line None = None
source_lines line (Some text) = lines_around line text
