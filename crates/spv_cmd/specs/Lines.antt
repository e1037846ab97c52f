-- The canonical line of a command: one space between its words, numbers without leading zeros, and no number left out.
use Rattle.std.specs.Prelude.{◌≡◌, ℕ, ◌<◌, ◌≤◌, true, List, [], ◌++◌, length, codes, decimal, Option}
use Rattle.spv_cmd.specs.declared.keywords.Keyword.{Keyword}
use Rattle.spv_cmd.specs.declared.keywords.Keyword.TheVariants as the
use Rattle.spv_cmd.specs.declared.command.PathText.{PathText}
use Rattle.spv_cmd.specs.declared.command.Command.{Command}
use Rattle.spv_cmd.specs.declared.command.Command.TheVariants as command
use Rattle.spv_cmd.specs.Paths.{is_path, path_text}
use Rattle.spv_cmd.specs.Places.{is_place, place_text}
use Rattle.spv_cmd.specs.Grammar.{spelling}

-- what is written of a command: its word, and what stands behind it
pub data Written : Type 0 where
  blank : Written
  alone : Keyword → Written
  with_number : Keyword → ℕ → Written
  with_count : Keyword → ℕ → Written
  with_path : Keyword → PathText → Written
  with_place : Keyword → Option (List ℕ) × ℕ → Written
  with_numbers : Keyword → (number count : ℕ) → Written
  with_stretch : Keyword → ℕ × ℕ → Written

abbrev pub written : Command → Written
written command.Empty = blank
written (command.Goto n) = with_number the.Goto n
written (command.Fwd n) = with_count the.Fwd n
written (command.Back n) = with_count the.Back n
written (command.Stepi n) = with_count the.Stepi n
written (command.Rstepi n) = with_count the.Rstepi n
written command.Step = alone the.Step
written command.Next = alone the.Next
written command.Finish = alone the.Finish
written command.Rstep = alone the.Rstep
written command.Rnext = alone the.Rnext
written command.Rfinish = alone the.Rfinish
written command.Continue = alone the.Continue
written command.Rcontinue = alone the.Rcontinue
written command.Place = alone the.Where
written command.Group = alone the.Group
written (command.Focus n) = with_number the.Focus n
written command.Bt = alone the.Bt
written (command.Frame n) = with_number the.Frame n
written command.Locals = alone the.Locals
written command.Globals = alone the.Globals
written (command.Print p) = with_path the.Print p
written command.Regs = alone the.Regs
written command.List = alone the.List
written (command.Break p) = with_place the.Break p
written (command.Delete n) = with_number the.Delete n
written (command.Watch p) = with_path the.Watch p
written (command.Unwatch n) = with_number the.Unwatch n
written command.Info = alone the.Info
written command.Tally = alone the.Tally
written (command.DropProbe n) = with_number the.Drop n
written (command.Halt k n) = with_numbers the.Halt k n
written (command.Order s) = with_stretch the.Order s
written command.Quit = alone the.Quit

abbrev pub text_of : Written → List ℕ
text_of blank = []
text_of (alone keyword) = spelling keyword
text_of (with_number keyword n) = spelling keyword ++ (codes " " ++ decimal n)
text_of (with_count keyword n) = spelling keyword ++ (codes " " ++ decimal n)
text_of (with_path keyword p) = spelling keyword ++ (codes " " ++ path_text p)
text_of (with_place keyword p) = spelling keyword ++ (codes " " ++ place_text p)
text_of (with_numbers keyword k n) = spelling keyword ++ (codes " " ++ (decimal k ++ (codes " " ++ decimal n)))
text_of (with_stretch keyword s) = spelling keyword ++ (codes " " ++ (decimal s.0 ++ (codes " " ++ decimal s.1)))

-- a number is of 32 bits, a count at least 1, a stretch has an event, and paths and places have their forms and leave room for the word
abbrev pub HasForm : Written → Type 0
HasForm blank = Unit {0}
HasForm (alone keyword) = Unit {0}
HasForm (with_number keyword n) = n ≤ 4294967295
HasForm (with_count keyword n) = (1 ≤ n) × (n ≤ 4294967295)
HasForm (with_path keyword p) = (is_path p ≡ true) × (length (path_text p) ≤ 4090)
HasForm (with_place keyword p) = (is_place p ≡ true) × (length (place_text p) ≤ 4090)
HasForm (with_numbers keyword k n) = (k ≤ 4294967295) × (1 ≤ n) × (n ≤ 4294967295)
HasForm (with_stretch keyword s) = (s.0 < s.1) × (s.1 ≤ 4294967295)

abbrev pub line_of : Command → List ℕ
line_of it = text_of (written it)
