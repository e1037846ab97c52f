-- The command that a line is, of those that are built. The word of another is no command so far, whatever follows it.
use Rattle.std.specs.Prelude.{◌≡◌, ℕ, ◌≤◌, nat_lt, false, if◌then◌else◌, List, [], ◌∷◌, length, Option, Some, None, Result, Ok, Err}
use Rattle.std.specs.Option.{option_and_then, option_map}
use Rattle.spv_base.specs.declared.causes.CmdRefusal.{CmdRefusal}
use Rattle.spv_cmd.specs.declared.keywords.Keyword.{Keyword}
use Rattle.spv_cmd.specs.declared.command.Command.{Command}
use Rattle.spv_cmd.specs.declared.command.Command.TheVariants as command
use Rattle.spv_line.specs.Words.{words_in}
use Rattle.spv_cmd.specs.Numbers.{number_of}
use Rattle.spv_cmd.specs.Paths.{path_of}
use Rattle.spv_cmd.specs.Places.{place_of}
use Rattle.spv_cmd.specs.Grammar.{Arguments, row, built, keyword_in, is_built}
use Rattle.spv_cmd.specs.Grammar.Arguments.{none, number, positive, count, path, place, numbers, stretch}

-- what one word says; no word, or more than one, says nothing
abbrev pub said_by_one : {T : Type 0} → (List ℕ → Option T) → List (List ℕ) → Option T
said_by_one said [] = None
said_by_one said (word ∷ []) = said word
said_by_one said (word ∷ (more ∷ words)) = None

abbrev pub at_least_one : ℕ → Option ℕ
at_least_one n = if nat_lt 0 n then Some n else None

abbrev pub positive_of : List (List ℕ) → Option ℕ
positive_of words = option_and_then at_least_one (said_by_one number_of words)

abbrev pub count_of : List (List ℕ) → Option ℕ
count_of [] = Some 1
count_of (word ∷ words) = positive_of (word ∷ words)

abbrev pub numbers_of : List (List ℕ) → Option (ℕ × ℕ)
numbers_of [] = None
numbers_of (word ∷ words) = option_and_then (λ k. option_map (λ n. (k, n)) (positive_of words)) (number_of word)

abbrev pub ascending : (a b : ℕ) → Option (ℕ × ℕ)
ascending a b = if nat_lt a b then Some (a, b) else None

abbrev pub stretch_of : List (List ℕ) → Option (ℕ × ℕ)
stretch_of [] = None
stretch_of (word ∷ words) = option_and_then (λ a. option_and_then (ascending a) (said_by_one number_of words)) (number_of word)

-- the command that the words after a command's own mean
abbrev pub meant : Arguments → List (List ℕ) → Option Command
meant (none it) [] = Some it
meant (none it) (word ∷ words) = None
meant (number make) words = option_map make (said_by_one number_of words)
meant (positive make) words = option_map make (positive_of words)
meant (count make) words = option_map make (count_of words)
meant (path make) words = option_map make (said_by_one path_of words)
meant (place make) words = option_map make (said_by_one place_of words)
meant (numbers make) words = option_map (λ p. make p.0 p.1) (numbers_of words)
meant (stretch make) words = option_map make (stretch_of words)

abbrev pub refused : ℕ → Result Command CmdRefusal
refused code = Err (record { code = code })

abbrev pub command_or_refused : Option Command → Result Command CmdRefusal
command_or_refused None = refused 2
command_or_refused (Some it) = Ok it

abbrev pub command_with : Option Keyword → List (List ℕ) → Result Command CmdRefusal
command_with None words = refused 1
command_with (Some keyword) words = command_or_refused (meant (row keyword).1 words)

abbrev pub command_in : List (List ℕ) → Result Command CmdRefusal
command_in [] = Ok command.Empty
command_in (word ∷ words) = command_with (keyword_in built word) words

-- a line of more than 4,096 bytes is too long
unfoldable pub command_of : List ℕ → Result Command CmdRefusal
command_of line = if nat_lt 4096 (length line) then refused 11 else command_in (words_in line)

-- no command that is built has the line's first word
abbrev pub IsUnknown : List ℕ → Type 0
IsUnknown line = (length line ≤ 4096) × (word : List ℕ) × (words : List (List ℕ)) × (words_in line ≡ word ∷ words) × (is_built word ≡ false)
