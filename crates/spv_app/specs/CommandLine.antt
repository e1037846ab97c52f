-- The command line of the program: what its words ask for, and the line that says which words there are.
use Rattle.std.specs.Prelude.{◌≡◌, ◌⊎◌, ℕ, List, codes, true, is_some, String}
use Rattle.std.specs.declared.alloc.Global.{Global}
use Rattle.spv_arguments.specs.Requests.{check_name, debug_names, make_number, text_name}

abbrev pub usage_line : List ℕ
usage_line = codes "usage: spvdbg debug MODULE SETUP | check MODULE | make N | text MODULE\n"

-- the words ask for one of the four
abbrev pub AskOne : List (String Global) → Type 0
AskOne words =
    (is_some (debug_names words) ≡ true)
    ⊎ ((is_some (check_name words) ≡ true) ⊎ ((is_some (make_number words) ≡ true) ⊎ (is_some (text_name words) ≡ true)))
