-- What is due to a line: its command, or a refusal with its cause.
use Rattle.std.specs.Prelude.{◌≡◌, ◌≢◌, ℕ, ◌+◌, ◌<◌, ◌≤◌, ◌⊎◌, List, [], ◌∷◌, length, Bool, Option, find, Result, Ok, Err}
use Rattle.std.specs.Str.{bytes_eq}
use Rattle.spv_base.specs.declared.causes.Fail.{Fail}
use Rattle.spv_base.specs.declared.causes.Fail.TheVariants.{Refused, NoMemory}
use Rattle.spv_base.specs.declared.causes.CmdRefusal.{CmdRefusal}
use Rattle.spv_cmd.specs.declared.keywords.Keyword.{Keyword}
use Rattle.spv_cmd.specs.declared.command.Command.{Command}
use Rattle.spv_line.specs.Words.{words_in}
use Rattle.spv_cmd.specs.Grammar.{spelling, row, Means, IsLine}

-- what a call gives that reads its text: a value that the text is, or C2 where it is none
abbrev pub Reads : {T : Type 0} → (T → Type 0) → Result T (Fail CmdRefusal) → Type 0
Reads P (Ok x) = P x
Reads {T} P (Err (Refused refusal)) = (refusal.code ≡ 2) × ((x : T) → ¬ P x)
Reads P (Err NoMemory) = Unit {0}

-- ---- the causes of a refusal

-- no command begins with this word
abbrev pub IsNoKeyword : List ℕ → Type 0
IsNoKeyword word = (keyword : Keyword) → word ≢ spelling keyword

-- why words are refused: the first is no keyword (C1), or the others aren't what its row says (C2)
abbrev pub AreRefused : List (List ℕ) → ℕ → Type 0
AreRefused [] code = ⊥
AreRefused (word ∷ words) code =
    ((code ≡ 1) × IsNoKeyword word)
    ⊎ ((code ≡ 2) × (keyword : Keyword) × (word ≡ spelling keyword) × ((command : Command) → ¬ Means (row keyword).1 words command))

-- why a line is refused: it has more than 4,096 bytes (C11), or for its words
abbrev pub IsRefused : List ℕ → ℕ → Type 0
IsRefused line code = ((code ≡ 11) × (4096 < length line)) ⊎ ((length line ≤ 4096) × AreRefused (words_in line) code)

-- this is due to the line
abbrev pub IsDue : List ℕ → Result Command CmdRefusal → Type 0
IsDue line (Ok command) = IsLine line command
IsDue line (Err refusal) = IsRefused line refusal.code

-- what was answered is due, or memory ran out
abbrev pub IsAnswer : List ℕ → Result Command (Fail CmdRefusal) → Type 0
IsAnswer line (Ok command) = IsLine line command
IsAnswer line (Err (Refused refusal)) = IsRefused line refusal.code
IsAnswer line (Err NoMemory) = Unit {0}

-- ---- the table of keywords

-- a row: a keyword, how it is written, and whether its command is built
abbrev pub Row : Type 0
Row = Keyword × List ℕ × Bool

abbrev pub row_with : List ℕ → List Row → Option Row
row_with word rows = find (λ r. bytes_eq r.1 word) rows

-- ---- what a line begins with

-- why the first word is refused: the line is too long (C11), or the word is no keyword (C1)
abbrev pub IsFirstRefused : List ℕ → ℕ → Type 0
IsFirstRefused line code =
    ((code ≡ 11) × (4096 < length line))
    ⊎ ((code ≡ 1) × (length line ≤ 4096) × (word : List ℕ) × (words : List (List ℕ)) × (words_in line ≡ word ∷ words) × IsNoKeyword word)

-- the line has no word
abbrev pub IsBlank : List ℕ → Type 0
IsBlank line = (length line ≤ 4096) × (words_in line ≡ [])

-- a line is split in its keyword and what stands behind it
pub record IsSplit (line : List ℕ) (keyword : Keyword) (rest : List ℕ) : Type 0 where
  pub words : words_in line ≡ spelling keyword ∷ words_in rest
  pub short : length line ≤ 4096
  pub apart : 0 < length rest → length (spelling keyword) + length rest < 4096
