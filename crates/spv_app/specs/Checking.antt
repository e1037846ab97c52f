-- What `check` tells of a module, and what a call of it may have written when it ends with a status.
use Rattle.std.specs.Prelude.{◌≡◌, ◌⊎◌, ℕ, ◌≤◌, ◌<◌, List, [], ◌∷◌, ◌++◌, length, codes, decimal, Option, Result, Ok, Err}
use Rattle.std.specs.Io.KnownBytes.{Appends, Keeps}
use Rattle.spv_base.specs.Outside.{Told, AsksFor, Holds, HoldsMore}
use Rattle.spv_base.specs.Answers.{after}
use Rattle.spv_base.specs.declared.causes.Refusal.{Refusal}
use Rattle.spv_words.specs.Words.{words_of}
use Rattle.spv_app.specs.declared.checking.Report.{Report}
use Rattle.spv_app.specs.declared.opening.OpeningRefusal.TheVariants.{Module}
use Rattle.spv_loop.specs.declared.status.Status.{Status}
use Rattle.spv_loop.specs.declared.status.Status.TheVariants.{Done, ModuleRefused, FileFault, NoMemory, FileTooLong}
use Rattle.spv_app.specs.Acceptance.{accepted_of}
use Rattle.spv_app.specs.Opening.{refusal_line}
use Rattle.spv_app.specs.Debug.{SaysLine}
use Rattle.spv_app.specs.Limits.{binary_limit}
use Rattle.spv_app.specs.Outside.{Library}

-- how many words and instructions a module has that is accepted, or why it is refused
unfoldable pub checking : List ℕ → Result Report Refusal
checking bytes = after (words_of bytes) (λ words. after (accepted_of words) (λ accepted. Ok (record { words = length words.items; instructions = length accepted.insts })))

-- the text that tells it
abbrev pub report_text : Report → List ℕ
report_text report = codes "accepted: words " ++ decimal report.words ++ codes ", instructions " ++ decimal report.instructions

-- the line of it
abbrev pub report_line : Report → List ℕ
report_line report = report_text report ++ codes "\n"

-- ---- what is due where nothing fails

abbrev pub check_line : Result Report Refusal → List ℕ
check_line (Ok report) = report_line report
check_line (Err refusal) = refusal_line (Module refusal)

abbrev pub check_status : Result Report Refusal → Status
check_status (Ok report) = Done
check_status (Err refusal) = ModuleRefused

-- ---- a whole call of `check`

-- the module that was read
pub record IsModule (told : Told) (name binary : List ℕ) : Type 0 where
  pub content : Holds told name binary
  pub fits : length binary ≤ binary_limit

-- The module was asked for once, and nothing else was.
abbrev pub AsksForName : List ℕ → Library → Library → Type 0
AsksForName name before after = AsksFor before.asked after.asked (name ∷ [])

-- why no module was read, or none was checked though no rule is broken
abbrev pub SaysUnread : (name : List ℕ) → Library → Library → Status → Type 0
SaysUnread name before after status =
    ((status ≡ FileFault) × (after.failed ≡ name) × AsksForName name before after)
    ⊎ (((status ≡ FileTooLong) × (binary_limit < after.taken) × HoldsMore before.told name binary_limit × AsksForName name before after)
    ⊎ ((status ≡ NoMemory) × (AsksFor before.asked after.asked [] ⊎ AsksForName name before after)))

-- A run about a module, by what the outside tells before and after it, where this status and this line are due for its bytes.
pub data Answered (due : List ℕ → Status) (line : List ℕ → List ℕ) (name : List ℕ) (before after : Library) (held_before held_after : Option (List ℕ)) : Status → Type 0 where
  -- no module is read, and none is refused: nothing is written
  Unread : (status : Status) → SaysUnread name before after status → Keeps held_before held_after → Answered due line name before after held_before held_after status
  -- the module is read: what is due for it is written
  Read : (status : Status) (binary put : List ℕ) → AsksForName name before after → IsModule before.told name binary → Appends held_before held_after put
      → SaysLine (due binary) (line binary) status put
      → Answered due line name before after held_before held_after status

-- a run of `check`: the line is due that tells whether the module is accepted
abbrev pub Checked : List ℕ → Library → Library → Option (List ℕ) → Option (List ℕ) → Status → Type 0
Checked name before after held_before held_after status =
    Answered (λ binary. check_status (checking binary)) (λ binary. check_line (checking binary)) name before after held_before held_after status
