-- The command line of the program, as a command of `clap`: one of four subcommands, each with its required positionals. Nothing
-- else is configured. Which words are taken, and what is found in them, is what `clap` says of this command.
use Rattle.std.specs.Prelude.{ℕ, List, codes, pos, true, Some}
use Rattle.clap.specs.Words.{App, Rule, new_app, new_rule, with_rule, with_subcommand}
use Rattle.clap.specs.declared.builder.value_parser.ValueParser.TheVariants.{Signed}

-- a positional that has to be there
abbrev pub required : List ℕ → Rule
required name = record (new_rule name) { required = true }

-- one that is a number from 1 to 64
abbrev pub required_number : List ℕ → Rule
required_number name = record (required name) { parser = Some (Signed (pos 1) (pos 64)) }

-- a subcommand with one positional
abbrev pub with_one : List ℕ → Rule → App
with_one name rule = with_rule (new_app name) rule

abbrev pub debug_command : App
debug_command = with_rule (with_one (codes "debug") (required (codes "MODULE"))) (required (codes "SETUP"))

abbrev pub check_command : App
check_command = with_one (codes "check") (required (codes "MODULE"))

abbrev pub make_command : App
make_command = with_one (codes "make") (required_number (codes "N"))

abbrev pub text_command : App
text_command = with_one (codes "text") (required (codes "MODULE"))

-- a command that one of its subcommands has to follow
abbrev pub with_required_subcommand : App → App
with_required_subcommand a = record a { top = record a.top { subcommand_required = true } }

unfoldable pub spvdbg : App
spvdbg =
    with_subcommand (with_subcommand (with_subcommand (with_subcommand (with_required_subcommand (new_app (codes "spvdbg")))
    debug_command.top) check_command.top) make_command.top) text_command.top
