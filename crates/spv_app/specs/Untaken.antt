-- What is written for words that aren't taken: the text of help, where they ask for that, and else the line that says which words are.
use Rattle.std.specs.Prelude.{◌≡◌, ◌⊎◌, ℕ, List, [], Option, String}
use Rattle.std.specs.declared.alloc.Global.{Global}
use Rattle.std.specs.Io.KnownBytes.{Appends}
use Rattle.spv_arguments.specs.Requests.{AreFaulty, AskHelp}
use Rattle.spv_loop.specs.declared.status.Status.{Status}
use Rattle.spv_loop.specs.declared.status.Status.TheVariants.{Done, NoMemory, Usage}
use Rattle.spv_app.specs.CommandLine.{usage_line}
use Rattle.spv_app.specs.Debug.{SaysLine}

-- the words are faulty, and the line is due; or they ask for help, and a text of it is due; or memory ran out before
abbrev pub Untaken : List (String Global) → (held_before held_after : Option (List ℕ)) → Status → Type 0
Untaken words held_before held_after status =
    (put : List ℕ) × Appends held_before held_after put
    × ((AreFaulty words × SaysLine Usage usage_line status put)
    ⊎ ((AskHelp words × ((text : List ℕ) × SaysLine Done text status put)) ⊎ ((status ≡ NoMemory) × (put ≡ []))))
