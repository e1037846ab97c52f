-- What a call of the program may have taken and written when it ends with a status.
use Rattle.std.specs.Prelude.{◌≡◌, ◌⊎◌, ℕ, ◌≤◌, ◌<◌, List, [], ◌∷◌, length, Option, Some, None, Result, Ok, Err}
use Rattle.std.specs.Io.KnownBytes.{Appends, Keeps}
use Rattle.spv_base.specs.Prefix.{IsProperPrefixOf}
use Rattle.spv_base.specs.Outside.{Told, AsksFor, Holds, HoldsMore}
use Rattle.spv_loop.specs.Sessions.{Held as Group, Settings, first_view, first_viewing, reply, line_cost}
use Rattle.spv_loop.specs.declared.status.Status.{Status}
use Rattle.spv_loop.specs.declared.status.Status.TheVariants.{Done, ModuleRefused, SetupRefused, FileFault, WriteFault, NoMemory, FileTooLong}
use Rattle.spv_app.specs.declared.opening.OpeningRefusal.{OpeningRefusal}
use Rattle.spv_app.specs.declared.opening.OpeningRefusal.TheVariants.{Module, Setup}
use Rattle.spv_app.specs.Limits.{binary_limit, setup_limit}
use Rattle.spv_loop.specs.Lines.{lines_of}
use Rattle.spv_app.specs.Outside.{Library, Outside}
use Rattle.spv_loop.specs.Transcript.{transcript}
use Rattle.spv_arguments.specs.Requests.{PairNames}
use Rattle.spv_loop.specs.CommandLoop.{Ran}
use Rattle.spv_app.specs.Opening.{opening, refusal_line, with_journal}

-- ---- one line

-- A line is due with a status. It was written whole; or a write failed, after less than the line; or memory ran out before it.
abbrev pub SaysLine : (due : Status) (line : List ℕ) (status : Status) (put : List ℕ) → Type 0
SaysLine due line status put = ((status ≡ due) × (put ≡ line)) ⊎ (((status ≡ WriteFault) × IsProperPrefixOf put line) ⊎ ((status ≡ NoMemory) × (put ≡ [])))

abbrev pub status_of_refusal : OpeningRefusal → Status
status_of_refusal (Module refusal) = ModuleRefused
status_of_refusal (Setup refusal) = SetupRefused

-- ---- the pair of files

-- the pair of files that was read
pub record IsPair (told : Told) (names : PairNames) (binary setup : List ℕ) : Type 0 where
  pub binary_is : Holds told names.binary binary
  pub setup_is : Holds told names.setup setup
  pub binary_fits : length binary ≤ binary_limit
  pub setup_fits : length setup ≤ setup_limit

-- The module was asked for once, and nothing else was.
abbrev pub AsksForModule : PairNames → Library → Library → Type 0
AsksForModule names before after = AsksFor before.asked after.asked (names.binary ∷ [])

-- The module was asked for once, and then the setup once, and nothing else was.
abbrev pub AsksForBoth : PairNames → Library → Library → Type 0
AsksForBoth names before after = AsksFor before.asked after.asked (names.binary ∷ (names.setup ∷ []))

-- the name was read: it has a content of at most so many bytes
abbrev pub WasRead : Told → List ℕ → (limit : ℕ) → Type 0
WasRead told name limit = (bytes : List ℕ) × Holds told name bytes × (length bytes ≤ limit)

-- The file that failed last is the module's, or, where that was read, the setup's.
abbrev pub HasFailed : PairNames → Library → Library → Type 0
HasFailed names before after =
    ((after.failed ≡ names.binary) × AsksForModule names before after)
    ⊎ ((after.failed ≡ names.setup) × WasRead before.told names.binary binary_limit × AsksForBoth names before after)

-- The last reading took more bytes than the module may have, or, where that was read, the setup; and it has more where that is told.
abbrev pub IsTooLong : PairNames → Library → Library → Type 0
IsTooLong names before after =
    ((binary_limit < after.taken) × HoldsMore before.told names.binary binary_limit × AsksForModule names before after)
    ⊎ ((setup_limit < after.taken) × HoldsMore before.told names.setup setup_limit × WasRead before.told names.binary binary_limit × AsksForBoth names before after)

-- Where memory ran out, no more was asked for.
abbrev pub AsksForAtMost : PairNames → Library → Library → Type 0
AsksForAtMost names before after = AsksFor before.asked after.asked [] ⊎ (AsksForModule names before after ⊎ AsksForBoth names before after)

-- why no pair was read, or none was opened though no rule is broken
abbrev pub SaysUnopened : PairNames → Library → Library → Status → Type 0
SaysUnopened names before after status =
    ((status ≡ FileFault) × HasFailed names before after)
    ⊎ (((status ≡ FileTooLong) × IsTooLong names before after) ⊎ ((status ≡ NoMemory) × AsksForAtMost names before after))

-- the name is one of the two
abbrev pub IsOneOf : Option PairNames → List ℕ → Type 0
IsOneOf None name = ⊥
IsOneOf (Some names) name = (name ≡ names.binary) ⊎ (name ≡ names.setup)

-- ---- a whole call of `debug`

-- A run of `debug`, by the settings of the kit, what the outside tells before and after it, and whether the input was left as it was.
pub data Debugged (settings : Settings) (names : PairNames) (before after : Outside) (unread : Type 0) : Status → Type 0 where
  -- no pair is opened, and none is refused: nothing is read, nothing is written, and there is no step
  Unopened : (status : Status) → SaysUnopened names before.files after.files status → unread → Keeps before.streams.held after.streams.held
      → after.streams.steps ≡ before.streams.steps → Debugged settings names before after unread status
  -- the pair is refused: nothing is read, there is no step, and the refusal's line is due
  Refused : (status : Status) (binary setup : List ℕ) (refusal : OpeningRefusal) (put : List ℕ) → AsksForBoth names before.files after.files
      → IsPair before.files.told names binary setup → opening binary setup ≡ Err refusal
      → unread → Appends before.streams.held after.streams.held put → SaysLine (status_of_refusal refusal) (refusal_line refusal) status put
      → after.streams.steps ≡ before.streams.steps → Debugged settings names before after unread status
  -- the pair is opened: the command loop runs from the first view of its group, which keeps at most 1,048,576 marks and entries of events
  Opened : (status : Status) (binary setup : List ℕ) (group : Group) → AsksForBoth names before.files after.files
      → IsPair before.files.told names binary setup → opening binary setup ≡ Ok group
      → Ran (reply settings) (line_cost settings) (first_viewing (with_journal 1048576 group)) before.streams after.streams status → Debugged settings names before after unread status

-- ---- what is due where nothing fails

-- the refusal's line, or the replies to the lines of the input
abbrev pub due_text : Settings → Result Group OpeningRefusal → List ℕ → List ℕ
due_text settings (Err refusal) input = refusal_line refusal
due_text settings (Ok group) input = transcript (reply settings) (first_view group) (lines_of input)

abbrev pub due_status : Result Group OpeningRefusal → Status
due_status (Err refusal) = status_of_refusal refusal
due_status (Ok group) = Done
