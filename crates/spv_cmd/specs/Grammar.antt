-- The grammar of command lines, by rows: a command's word, what its arguments are, and what it means.
use Rattle.std.specs.Prelude.{◌≡◌, ℕ, ◌<◌, ◌≤◌, ◌⊎◌, Bool, List, [], ◌∷◌, length, find, codes, Option, Some, is_some}
use Rattle.std.specs.Str.{bytes_eq}
use Rattle.spv_cmd.specs.declared.keywords.Keyword.{Keyword}
use Rattle.spv_cmd.specs.declared.keywords.Keyword.TheVariants as the
use Rattle.spv_cmd.specs.declared.command.PathText.{PathText}
use Rattle.spv_cmd.specs.declared.command.Command.{Command}
use Rattle.spv_cmd.specs.declared.command.Command.TheVariants as command
use Rattle.spv_line.specs.Words.{words_in}
use Rattle.spv_cmd.specs.Numbers.{number_of}
use Rattle.spv_cmd.specs.Paths.{IsPath}
use Rattle.spv_cmd.specs.Places.{IsPlace}

-- what stands after a command's word, and the command that it means
pub data Arguments : Type 0 where
  none : Command → Arguments
  number : (ℕ → Command) → Arguments
  -- a number of at least 1
  positive : (ℕ → Command) → Arguments
  -- the same, or nothing, which means 1
  count : (ℕ → Command) → Arguments
  path : (PathText → Command) → Arguments
  -- a line of a source file
  place : (Option (List ℕ) × ℕ → Command) → Arguments
  -- a number, and one of at least 1
  numbers : (ℕ → ℕ → Command) → Arguments
  -- two numbers, the first below the second
  stretch : (ℕ × ℕ → Command) → Arguments

-- ---- the rows

abbrev pub row : Keyword → List ℕ × Arguments
row the.Goto = (codes "goto", number command.Goto)
row the.Fwd = (codes "fwd", positive command.Fwd)
row the.Back = (codes "back", positive command.Back)
row the.Stepi = (codes "stepi", count command.Stepi)
row the.Rstepi = (codes "rstepi", count command.Rstepi)
row the.Step = (codes "step", none command.Step)
row the.Next = (codes "next", none command.Next)
row the.Finish = (codes "finish", none command.Finish)
row the.Rstep = (codes "rstep", none command.Rstep)
row the.Rnext = (codes "rnext", none command.Rnext)
row the.Rfinish = (codes "rfinish", none command.Rfinish)
row the.Continue = (codes "continue", none command.Continue)
row the.Rcontinue = (codes "rcontinue", none command.Rcontinue)
row the.Where = (codes "where", none command.Place)
row the.Group = (codes "group", none command.Group)
row the.Focus = (codes "focus", number command.Focus)
row the.Bt = (codes "bt", none command.Bt)
row the.Frame = (codes "frame", number command.Frame)
row the.Locals = (codes "locals", none command.Locals)
row the.Globals = (codes "globals", none command.Globals)
row the.Print = (codes "print", path command.Print)
row the.Regs = (codes "regs", none command.Regs)
row the.List = (codes "list", none command.List)
row the.Break = (codes "break", place command.Break)
row the.Delete = (codes "delete", number command.Delete)
row the.Watch = (codes "watch", path command.Watch)
row the.Unwatch = (codes "unwatch", number command.Unwatch)
row the.Info = (codes "info", none command.Info)
row the.Tally = (codes "tally", none command.Tally)
row the.Drop = (codes "drop", number command.DropProbe)
row the.Halt = (codes "halt", numbers command.Halt)
row the.Order = (codes "order", stretch command.Order)
row the.Quit = (codes "quit", none command.Quit)

abbrev pub spelling : Keyword → List ℕ
spelling keyword = (row keyword).0

-- ---- the commands that are built

-- their keywords; the word of another is no command so far
abbrev pub built : List Keyword
built =
    the.Goto ∷ the.Fwd ∷ the.Back ∷ the.Stepi ∷ the.Rstepi ∷ the.Step ∷ the.Next ∷ the.Finish ∷ the.Rstep ∷ the.Rnext ∷ the.Rfinish ∷ the.Continue ∷ the.Rcontinue
    ∷ the.Where ∷ the.Group ∷ the.Focus ∷ the.Bt ∷ the.Frame ∷ the.Locals ∷ the.Globals ∷ the.Print ∷ the.Regs ∷ the.List
    ∷ the.Break ∷ the.Delete ∷ the.Watch ∷ the.Unwatch ∷ the.Info ∷ the.Tally ∷ the.Drop ∷ the.Halt ∷ the.Order ∷ the.Quit ∷ []

-- the keyword among these that a word is
abbrev pub keyword_in : List Keyword → List ℕ → Option Keyword
keyword_in keywords word = find (λ keyword. bytes_eq word (spelling keyword)) keywords

abbrev pub is_built : List ℕ → Bool
is_built word = is_some (keyword_in built word)

-- ---- what a line means

-- the words are one, and it is so
abbrev pub IsOne : (List ℕ → Type 0) → List (List ℕ) → Type 0
IsOne P words = (word : List ℕ) × (words ≡ word ∷ []) × P word

abbrev pub IsNumber : List (List ℕ) → ℕ → Type 0
IsNumber words n = IsOne (λ word. number_of word ≡ Some n) words

abbrev pub IsPositive : List (List ℕ) → ℕ → Type 0
IsPositive words n = (1 ≤ n) × IsNumber words n

abbrev pub IsCount : List (List ℕ) → ℕ → Type 0
IsCount words n = ((words ≡ []) × (n ≡ 1)) ⊎ IsPositive words n

abbrev pub AreNumbers : List (List ℕ) → (k n : ℕ) → Type 0
AreNumbers words k n = (word : List ℕ) × (rest : List (List ℕ)) × (words ≡ word ∷ rest) × (number_of word ≡ Some k) × IsPositive rest n

abbrev pub IsStretch : List (List ℕ) → ℕ × ℕ → Type 0
IsStretch words s = (s.0 < s.1) × (word : List ℕ) × (rest : List (List ℕ)) × (words ≡ word ∷ rest) × (number_of word ≡ Some s.0) × IsNumber rest s.1

-- with these arguments, the words after the command's own mean this command
abbrev pub Means : Arguments → List (List ℕ) → Command → Type 0
Means (none it) words that = (words ≡ []) × (that ≡ it)
Means (number make) words that = (n : ℕ) × (that ≡ make n) × IsNumber words n
Means (positive make) words that = (n : ℕ) × (that ≡ make n) × IsPositive words n
Means (count make) words that = (n : ℕ) × (that ≡ make n) × IsCount words n
Means (path make) words that = (p : PathText) × (that ≡ make p) × IsOne (IsPath p) words
Means (place make) words that = (p : Option (List ℕ) × ℕ) × (that ≡ make p) × IsOne (IsPlace p) words
Means (numbers make) words that = (k n : ℕ) × (that ≡ make k n) × AreNumbers words k n
Means (stretch make) words that = (s : ℕ × ℕ) × (that ≡ make s) × IsStretch words s

-- the words of a line mean this command: none is the empty command, and else the first is a keyword and the others are
-- what its row says
abbrev pub AreWords : List (List ℕ) → Command → Type 0
AreWords [] it = it ≡ command.Empty
AreWords (word ∷ words) it = (keyword : Keyword) × (word ≡ spelling keyword) × Means (row keyword).1 words it

-- a line is this command
abbrev pub IsLine : List ℕ → Command → Type 0
IsLine line it = (length line ≤ 4096) × AreWords (words_in line) it
