-- What the words of the command line ask for. The first word is the program's name.
use Rattle.std.specs.Prelude.{◌≡◌, ◌≢◌, ◌⊎◌, ◌≤◌, ℕ, Bool, List, codes, false, true, is_some, pos, map, Option, Some, None, option_map, option_and_then, if◌then◌else◌, String, string_bytes}
use Rattle.std.specs.Str.{bytes_eq}
use Rattle.std.specs.Str.Parse.{digits_value, without_leading_plus}
use Rattle.std.specs.declared.alloc.Global.{Global}
use Rattle.clap.specs.ValueTests.{is_signed_in}
use Rattle.clap.specs.Words.{IsAmong, Kinds, Row, Text, fault_of, first_of, one_of, subcommand_of, takes, without_minus}
use Rattle.clap.specs.declared.error.kind.ErrorKind.{ErrorKind}
use Rattle.clap.specs.declared.error.kind.ErrorKind.TheVariants.{DisplayHelp}
use Rattle.spv_arguments.specs.declared.request.Request.{Request}
use Rattle.spv_arguments.specs.declared.request.Request.TheVariants as request
use Rattle.spv_arguments.specs.CommandLine.{spvdbg}

-- the texts of words
abbrev pub texts_of : List (String Global) → List Text
texts_of words = map string_bytes words

-- `clap` takes the words
unfoldable pub are_taken : List Text → Bool
are_taken words = takes spvdbg words

-- what it answers to words that it doesn't take
unfoldable pub answers_to : List Text → Kinds
answers_to words = fault_of spvdbg words

-- ---- what is found of a subcommand: its name, and what each of its positionals is

abbrev pub Found : Type 0
Found = Option (Text × List Row)

unfoldable pub found_by : List Text → Found
found_by words = subcommand_of spvdbg words

-- the positionals, where the subcommand has this name
abbrev pub positionals : Text → Found → Option (List Row)
positionals name found = option_and_then (λ p. if bytes_eq p.0 name then Some p.1 else None) found

-- the names of a module and of a setup
pub record PairNames : Type 0 where
  pub binary : List ℕ
  pub setup : List ℕ

abbrev pub pair_in : Found → Option PairNames
pair_in found =
    option_and_then (λ rows.
    option_and_then (λ binary.
    option_map (λ setup. record { binary = binary; setup = setup })
    (first_of (codes "SETUP") rows)) (first_of (codes "MODULE") rows)) (positionals (codes "debug") found)

-- the name of a module
abbrev pub module_in : Text → Found → Option (List ℕ)
module_in name found = option_and_then (first_of (codes "MODULE")) (positionals name found)

-- the number that decimal digits are, of which `+` may stand in front
abbrev pub number_in : Found → Option ℕ
number_in found =
    option_and_then (λ rows. option_map (λ text. digits_value 10 (without_leading_plus text)) (one_of (codes "N") rows))
    (positionals (codes "make") found)

-- the value of `N` is a number from 1 to 64, and is read without a first hyphen
abbrev pub HasNumber : Found → Type 0
HasNumber found =
    (text : Text) × (rows : List Row) × (positionals (codes "make") found ≡ Some rows) × (one_of (codes "N") rows ≡ Some (without_minus text))
    × (is_signed_in (pos 1) (pos 64) text ≡ true)

-- what one of the four subcommands asks for is found
abbrev pub IsFound : Found → Type 0
IsFound found =
    (is_some (pair_in found) ≡ true)
    ⊎ ((is_some (module_in (codes "check") found) ≡ true) ⊎ (HasNumber found ⊎ (is_some (module_in (codes "text") found) ≡ true)))

-- the request is what is found
abbrev pub IsIn : Found → Request → Type 0
IsIn found (request.Debug binary setup) = pair_in found ≡ Some (record { binary = binary.now; setup = setup.now })
IsIn found (request.Check binary) = module_in (codes "check") found ≡ Some binary.now
IsIn found (request.Make number) = (number_in found ≡ Some number) × (1 ≤ number) × (number ≤ 64)
IsIn found (request.Text binary) = module_in (codes "text") found ≡ Some binary.now
IsIn found (request.Help text) = ⊥

-- the request is for help
abbrev pub IsHelp : Request → Type 0
IsHelp (request.Help text) = Unit {0}
IsHelp other = ⊥

-- ---- what is asked for by words that are taken

abbrev pub asked : {A : Type 0} → (Found → Option A) → List (String Global) → Option A
asked read words = if are_taken (texts_of words) then read (found_by (texts_of words)) else None

-- `debug MODULE SETUP`
abbrev pub debug_names : List (String Global) → Option PairNames
debug_names words = asked pair_in words

-- `check MODULE`
abbrev pub check_name : List (String Global) → Option (List ℕ)
check_name words = asked (module_in (codes "check")) words

-- `make N`
abbrev pub make_number : List (String Global) → Option ℕ
make_number words = asked number_in words

-- `text MODULE`
abbrev pub text_name : List (String Global) → Option (List ℕ)
text_name words = asked (module_in (codes "text")) words

-- ---- words that aren't taken

-- the words aren't taken, and what `clap` answers to them is help
abbrev pub AskHelp : List (String Global) → Type 0
AskHelp words = (are_taken (texts_of words) ≡ false) × IsAmong DisplayHelp (answers_to (texts_of words))

-- the words aren't taken, and what `clap` answers to them is a fault of theirs
abbrev pub AreFaulty : List (String Global) → Type 0
AreFaulty words = (are_taken (texts_of words) ≡ false) × ((kind : ErrorKind) × (kind ≢ DisplayHelp) × IsAmong kind (answers_to (texts_of words)))

-- the words ask for this
abbrev pub Ask : List (String Global) → Request → Type 0
Ask words (request.Debug binary setup) = debug_names words ≡ Some (record { binary = binary.now; setup = setup.now })
Ask words (request.Check binary) = check_name words ≡ Some binary.now
Ask words (request.Make number) = (make_number words ≡ Some number) × (1 ≤ number) × (number ≤ 64)
Ask words (request.Text binary) = text_name words ≡ Some binary.now
Ask words (request.Help text) = AskHelp words
