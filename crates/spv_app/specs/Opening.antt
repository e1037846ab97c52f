-- Which pair of a module and a setup is opened, and which refusal is due else.
use Rattle.std.specs.Prelude.{ℕ, List, ◌++◌, codes, decimal, Result, Ok, Err}
use Rattle.spv_base.specs.Answers.{after}
use Rattle.spv_base.specs.declared.causes.Refusal.{Refusal}
use Rattle.spv_base.specs.declared.causes.SetupRefusal.{SetupRefusal}
use Rattle.spv_words.specs.Words.{words_of}
use Rattle.spv_valid.specs.Acceptance.{Accepted}
use Rattle.spv_setup.specs.declared.settings.Settings.{Settings}
use Rattle.spv_setup.specs.Settings.{settings_of}
use Rattle.spv_state.specs.Program.{schedule_for}
use Rattle.spv_loop.specs.Sessions.{Held as Group, Undoing, first_group, Viewing, first_viewing}
use Rattle.spv_app.specs.declared.opening.OpeningRefusal.{OpeningRefusal}
use Rattle.spv_app.specs.declared.opening.OpeningRefusal.TheVariants.{Module, Setup}
use Rattle.spv_app.specs.Acceptance.{accepted_as}

-- the accepted module of a module's bytes, for the entry point that the setup names, and with its numbers for SpecIds
abbrev pub accepted_in : List ℕ → Settings → Result Accepted Refusal
accepted_in bytes s = after (words_of bytes) (accepted_as s.entry s.overrides)

-- whose refusal it is
abbrev pub of_setup : {A : Type 0} → Result A SetupRefusal → Result A OpeningRefusal
of_setup (Ok x) = Ok x
of_setup (Err refusal) = Err (Setup refusal)

abbrev pub of_module : {A : Type 0} → Result A Refusal → Result A OpeningRefusal
of_module (Ok x) = Ok x
of_module (Err refusal) = Err (Module refusal)

-- the group at its start, where the setup fits the module; every accepted module can be run
abbrev pub started : Settings → Accepted → Result Group OpeningRefusal
started s a = after (of_setup (schedule_for a s)) (λ schedule. Ok (first_group (record { accepted = a; setup = s }) schedule))

-- An opened group keeps at most so many marks and entries of events. None was made so far.
abbrev pub with_journal : ℕ → Group → Undoing
with_journal limit group = record { group = group; kept = 0; limit = limit }

abbrev pub journaled : ℕ → Result Group OpeningRefusal → Result Undoing OpeningRefusal
journaled limit due = after due (λ group. Ok (with_journal limit group))

-- the first view of it, for a session
abbrev pub viewed : ℕ → Result Group OpeningRefusal → Result Viewing OpeningRefusal
viewed limit due = after due (λ group. Ok (first_viewing (with_journal limit group)))

-- The setup's text is looked at first, then the module, and then whether the setup fits it.
unfoldable pub opening : List ℕ → List ℕ → Result Group OpeningRefusal
opening mod_bytes setup = after (of_setup (settings_of setup)) (λ s. after (of_module (accepted_in mod_bytes s)) (started s))

-- the text that tells a refusal
abbrev pub refusal_text : OpeningRefusal → List ℕ
refusal_text (Module refusal) = codes "module refused: M" ++ decimal refusal.code ++ codes " at word " ++ decimal refusal.word
refusal_text (Setup refusal) = codes "setup refused: S" ++ decimal refusal.code ++ codes " at line " ++ decimal refusal.line

-- the line of it
abbrev pub refusal_line : OpeningRefusal → List ℕ
refusal_line refusal = refusal_text refusal ++ codes "\n"
