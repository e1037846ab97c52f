-- What is said for words, from what is said of what they ask for.
use Rattle.std.proofs.Common.{◌≡◌, ◌≢◌, ◌∙◌, ◌⊎◌, ℕ, Bool, true, false, is_some, refl, sym, ap, subst, List, [], ◌++◌, Option, Some, None, String, string_bytes, codes, inl, inr}
use Rattle.std.specs.declared.alloc.Global.{Global}
use Rattle.std.specs.Io.KnownBytes.{Appends}
use Rattle.std.proofs.lemmas.List.{append-nil}
use Rattle.std.proofs.KnownBytes.{Keeps-refl}
use Rattle.spv_base.specs.Outside.{Asked, AsksFor}
use Rattle.spv_arguments.specs.Requests.{Ask, PairNames, are_taken, check_name, debug_names, make_number, text_name, texts_of}
use Rattle.spv_arguments.specs.declared.request.Request.{Request}
use Rattle.spv_arguments.specs.declared.request.Request.TheVariants as request
use Rattle.spv_arguments.proofs.Exports.{names_check, names_debug, names_make, names_text, no_other, not_untaken}
use Rattle.spv_loop.specs.Sessions.{Settings, first_view, reply}
use Rattle.spv_loop.specs.CommandLoop.{Says, with_rest}
use Rattle.spv_loop.specs.declared.status.Status.{Status}
use Rattle.spv_loop.specs.declared.status.Status.TheVariants.{Done, Usage, FileFault, ReadFault, WriteFault, NoMemory, FileTooLong}
use Rattle.spv_app.specs.declared.opening.OpeningRefusal.{OpeningRefusal}
use Rattle.spv_app.specs.declared.opening.OpeningRefusal.TheVariants.{Module, Setup}
use Rattle.spv_base.specs.declared.causes.Refusal.{Refusal}
use Rattle.spv_app.specs.declared.checking.Report.{Report}
use Rattle.spv_app.specs.declared.making.MadeReport.{MadeReport}
use Rattle.std.specs.Prelude.{Result, Ok, Err}
use Rattle.spv_app.specs.Checking.{Answered, Checked, Read, Unread, check_status, checking}
use Rattle.spv_app.specs.CommandLine.{AskOne}
use Rattle.spv_app.specs.Debug.{Debugged, IsOneOf, Opened, Refused, SaysLine, Unopened, status_of_refusal}
use Rattle.spv_app.specs.Making.{Made, make_line, make_status, making}
use Rattle.spv_app.specs.Outside.{Library, Outside}
use Rattle.spv_app.specs.Serving.{CanServe, Reads, Served}
use Rattle.spv_app.specs.Texting.{Texted, text_status, texting}
use Rattle.spv_app.specs.Untaken.{Untaken}
use Rattle.spv_app.proofs.Headlines.{held_now}

some_pair : (x y : PairNames) → Some x ≡ Some y → x ≡ y
some_pair x y e = cc

some_name : (x y : List ℕ) → Some x ≡ Some y → x ≡ y
some_name x y e = cc

some_number : (x y : ℕ) → Some x ≡ Some y → x ≡ y
some_number x y e = cc

module _ (words : List (String Global)) (settings : Settings) (before after : Outside) (unasked unread : Type 0) (status : Status) where
  pub debugged_for : (r : Request) (names : PairNames) → Ask words r → Served settings r before after unasked unread status → debug_names words ≡ Some names → Debugged settings names before after unread status
  debugged_for (request.Debug binary setup) names ask served due = subst (λ n. Debugged settings n before after unread status) (some_pair _ names (sym ask ∙ due)) served
  debugged_for (request.Check binary) names ask served due = absurd (no_other words (codes "check") (codes "debug") refl (names_check words binary.now ask) (names_debug words names due))
  debugged_for (request.Make number) names ask served due = absurd (no_other words (codes "make") (codes "debug") refl (names_make words number ask.0) (names_debug words names due))
  debugged_for (request.Text binary) names ask served due = absurd (no_other words (codes "text") (codes "debug") refl (names_text words binary.now ask) (names_debug words names due))
  debugged_for (request.Help text) names ask served due = absurd (not_untaken words (codes "debug") (names_debug words names due) ask.0)

  pub checked_for : (r : Request) (name : List ℕ) → Ask words r → Served settings r before after unasked unread status → check_name words ≡ Some name
      → unread × (after.streams.steps ≡ before.streams.steps) × Checked name before.files after.files before.streams.held after.streams.held status
  checked_for (request.Debug binary setup) name ask served due = absurd (no_other words (codes "debug") (codes "check") refl (names_debug words _ ask) (names_check words name due))
  checked_for (request.Check binary) name ask served due =
      (served.0, served.1, subst (λ n. Checked n before.files after.files before.streams.held after.streams.held status) (some_name binary.now name (sym ask ∙ due)) served.2)
  checked_for (request.Make number) name ask served due = absurd (no_other words (codes "make") (codes "check") refl (names_make words number ask.0) (names_check words name due))
  checked_for (request.Text binary) name ask served due = absurd (no_other words (codes "text") (codes "check") refl (names_text words binary.now ask) (names_check words name due))
  checked_for (request.Help text) name ask served due = absurd (not_untaken words (codes "check") (names_check words name due) ask.0)

  pub texted_for : (r : Request) (name : List ℕ) → Ask words r → Served settings r before after unasked unread status → text_name words ≡ Some name
      → unread × (after.streams.steps ≡ before.streams.steps) × Texted name before.files after.files before.streams.held after.streams.held status
  texted_for (request.Debug binary setup) name ask served due = absurd (no_other words (codes "debug") (codes "text") refl (names_debug words _ ask) (names_text words name due))
  texted_for (request.Check binary) name ask served due = absurd (no_other words (codes "check") (codes "text") refl (names_check words binary.now ask) (names_text words name due))
  texted_for (request.Make number) name ask served due = absurd (no_other words (codes "make") (codes "text") refl (names_make words number ask.0) (names_text words name due))
  texted_for (request.Text binary) name ask served due =
      (served.0, served.1, subst (λ n. Texted n before.files after.files before.streams.held after.streams.held status) (some_name binary.now name (sym ask ∙ due)) served.2)
  texted_for (request.Help text) name ask served due = absurd (not_untaken words (codes "text") (names_text words name due) ask.0)

  pub made_for : (r : Request) (n : ℕ) → Ask words r → Served settings r before after unasked unread status → make_number words ≡ Some n
      → unasked × unread × Made n before.streams.held after.streams.held before.streams.steps after.streams.steps status
  made_for (request.Debug binary setup) n ask served due = absurd (no_other words (codes "debug") (codes "make") refl (names_debug words _ ask) (names_make words n due))
  made_for (request.Check binary) n ask served due = absurd (no_other words (codes "check") (codes "make") refl (names_check words binary.now ask) (names_make words n due))
  made_for (request.Make number) n ask served due =
      (served.0, served.1, subst (λ k. Made k before.streams.held after.streams.held before.streams.steps after.streams.steps status) (some_number number n (sym ask.0 ∙ due)) served.2)
  made_for (request.Text binary) n ask served due = absurd (no_other words (codes "text") (codes "make") refl (names_text words binary.now ask) (names_make words n due))
  made_for (request.Help text) n ask served due = absurd (not_untaken words (codes "make") (names_make words n due) ask.0)

  pub untaken_for : (r : Request) → Ask words r → Served settings r before after unasked unread status → are_taken (texts_of words) ≡ false
      → unasked × unread × (after.streams.steps ≡ before.streams.steps) × Untaken words before.streams.held after.streams.held status
  untaken_for (request.Debug binary setup) ask served due = absurd (not_untaken words (codes "debug") (names_debug words _ ask) due)
  untaken_for (request.Check binary) ask served due = absurd (not_untaken words (codes "check") (names_check words binary.now ask) due)
  untaken_for (request.Make number) ask served due = absurd (not_untaken words (codes "make") (names_make words number ask.0) due)
  untaken_for (request.Text binary) ask served due = absurd (not_untaken words (codes "text") (names_text words binary.now ask) due)
  untaken_for (request.Help text) ask served due =
      let helped = served.3 in
      (served.0, served.1, served.2, (helped.0, helped.1, inr (inl (ask, (string_bytes text, helped.2)))))

pub names_for : (words : List (String Global)) (r : Request) (name : List ℕ) → Ask words r → Reads r name
    → IsOneOf (debug_names words) name ⊎ ((check_name words ≡ Some name) ⊎ (text_name words ≡ Some name))
names_for words (request.Debug binary setup) name ask is = inl (subst (λ o. IsOneOf o name) (sym ask) is)
names_for words (request.Check binary) name ask is = inr (inl (ask ∙ ap Some (sym is)))
names_for words (request.Make number) name ask is = absurd is
names_for words (request.Text binary) name ask is = inr (inr (ask ∙ ap Some (sym is)))
names_for words (request.Help text) name ask is = absurd is

not_both : (b : Bool) → b ≡ true → b ≡ false → ⊥
not_both b is other = absurd cc

pub asks_one : (words : List (String Global)) (r : Request) → Ask words r → are_taken (texts_of words) ≡ true → AskOne words
asks_one words (request.Debug binary setup) ask taken = inl (ap is_some ask)
asks_one words (request.Check binary) ask taken = inr (inl (ap is_some ask))
asks_one words (request.Make number) ask taken = inr (inr (inl (ap is_some ask.0)))
asks_one words (request.Text binary) ask taken = inr (inr (inr (ap is_some ask)))
asks_one words (request.Help text) ask taken = absurd (not_both _ taken ask.0)

-- ---- the status Usage

line_not : (due status other : Status) (line put : List ℕ) → SaysLine due line status put → due ≢ other → status ≡ other → (other ≡ WriteFault → ⊥) → (other ≡ NoMemory → ⊥) → ⊥
line_not due status other line put (inl h) differs e write memory = differs (sym h.0 ∙ e)
line_not due status other line put (inr (inl h)) differs e write memory = write (sym e ∙ h.0)
line_not due status other line put (inr (inr h)) differs e write memory = memory (sym e ∙ h.0)

refused_not : (refusal : OpeningRefusal) → status_of_refusal refusal ≢ Usage
refused_not (Module refusal) = λ e. absurd cc
refused_not (Setup refusal) = λ e. absurd cc

line_not_usage : (due status : Status) (line put : List ℕ) → SaysLine due line status put → due ≢ Usage → status ≢ Usage
line_not_usage due status line put says differs = λ e. line_not due status Usage line put says differs e (λ w. absurd cc) (λ m. absurd cc)

-- a run about a module ends with no status but these
pub answered_not : (due : List ℕ → Status) (line : List ℕ → List ℕ) (name : List ℕ) (before after : Library) (held_before held_after : Option (List ℕ)) (status other : Status)
    → FileFault ≢ other → FileTooLong ≢ other → NoMemory ≢ other → WriteFault ≢ other → ((bytes : List ℕ) → due bytes ≢ other)
    → Answered due line name before after held_before held_after status → status ≢ other
answered_not due line name before after held_before held_after status other file long memory write differs (Unread _ says kept) = λ e. elim says [
  | inl h ↦ file (sym h.0 ∙ e)
  | inr (inl h) ↦ long (sym h.0 ∙ e)
  | inr (inr h) ↦ memory (sym h.0 ∙ e)
]
answered_not due line name before after held_before held_after status other file long memory write differs (Read _ binary put asks read wrote says) =
    λ e. line_not (due binary) status other (line binary) put says (differs binary) e (λ w. write (sym w)) (λ m. memory (sym m))

debugged_not_usage : (settings : Settings) (names : PairNames) (before after : Outside) (unread : Type 0) (status : Status) → Debugged settings names before after unread status → status ≢ Usage
debugged_not_usage settings names before after unread status (Unopened _ says kept held steps) = λ e. elim says [
  | inl fault ↦ let bad : FileFault ≡ Usage = sym fault.0 ∙ e in absurd cc
  | inr (inl long) ↦ let bad : FileTooLong ≡ Usage = sym long.0 ∙ e in absurd cc
  | inr (inr memory) ↦ let bad : NoMemory ≡ Usage = sym memory.0 ∙ e in absurd cc
]
debugged_not_usage settings names before after unread status (Refused _ binary setup refusal put asks pair refused kept wrote says steps) =
    line_not_usage (status_of_refusal refusal) status _ put says (refused_not refusal)
debugged_not_usage settings names before after unread status (Opened _ binary setup group asks pair opened ran) = λ e. subst (λ s. Says (reply settings) s (first_view group) ran.got (with_rest ran.got after.streams.left) ran.put) e ran.says

check_not_usage : (r : Result Report Refusal) → check_status r ≢ Usage
check_not_usage (Ok report) = λ e. absurd cc
check_not_usage (Err refusal) = λ e. absurd cc

text_not_usage : (r : Result (List ℕ) Refusal) → text_status r ≢ Usage
text_not_usage (Ok text) = λ e. absurd cc
text_not_usage (Err refusal) = λ e. absurd cc

make_not_usage : (r : Result MadeReport OpeningRefusal) → make_status r ≢ Usage
make_not_usage (Ok report) = λ e. absurd cc
make_not_usage (Err refusal) = refused_not refusal

pub served_not_usage : (settings : Settings) (r : Request) (before after : Outside) (unasked unread : Type 0) (status : Status) → Served settings r before after unasked unread status → status ≢ Usage
served_not_usage settings (request.Debug binary setup) before after unasked unread status served = debugged_not_usage settings _ before after unread status served
served_not_usage settings (request.Check binary) before after unasked unread status served =
    answered_not _ _ binary.now before.files after.files before.streams.held after.streams.held status Usage (λ e. absurd cc) (λ e. absurd cc) (λ e. absurd cc) (λ e. absurd cc) (λ bytes. check_not_usage (checking bytes)) served.2
served_not_usage settings (request.Make number) before after unasked unread status served = let made = served.2 in line_not_usage _ status _ made.0 made.2 (make_not_usage (making number))
served_not_usage settings (request.Text binary) before after unasked unread status served =
    answered_not _ _ binary.now before.files after.files before.streams.held after.streams.held status Usage (λ e. absurd cc) (λ e. absurd cc) (λ e. absurd cc) (λ e. absurd cc) (λ bytes. text_not_usage (texting bytes)) served.2
served_not_usage settings (request.Help text) before after unasked unread status served = let helped = served.3 in line_not_usage Done status _ helped.0 helped.2 (λ e. absurd cc)

-- ---- what is due where nothing fails

check_not_read : (r : Result Report Refusal) → check_status r ≢ ReadFault
check_not_read (Ok report) = λ e. absurd cc
check_not_read (Err refusal) = λ e. absurd cc

text_not_read : (r : Result (List ℕ) Refusal) → text_status r ≢ ReadFault
text_not_read (Ok text) = λ e. absurd cc
text_not_read (Err refusal) = λ e. absurd cc

pub checked_not_read : (name : List ℕ) (before after : Library) (held_before held_after : Option (List ℕ)) (status : Status) → Checked name before after held_before held_after status → status ≢ ReadFault
checked_not_read name before after held_before held_after status checked =
    answered_not _ _ name before after held_before held_after status ReadFault (λ e. absurd cc) (λ e. absurd cc) (λ e. absurd cc) (λ e. absurd cc) (λ bytes. check_not_read (checking bytes)) checked

pub texted_not_read : (name : List ℕ) (before after : Library) (held_before held_after : Option (List ℕ)) (status : Status) → Texted name before after held_before held_after status → status ≢ ReadFault
texted_not_read name before after held_before held_after status texted =
    answered_not _ _ name before after held_before held_after status ReadFault (λ e. absurd cc) (λ e. absurd cc) (λ e. absurd cc) (λ e. absurd cc) (λ bytes. text_not_read (texting bytes)) texted

pub made_due : (n : ℕ) (held : List ℕ) (held_before held_after : Option (List ℕ)) (steps_before steps_after : ℕ) (status : Status) → Made n held_before held_after steps_before steps_after status
    → held_before ≡ Some held → status ≢ WriteFault → status ≢ NoMemory → (held_after ≡ Some (held ++ make_line (making n))) × (status ≡ make_status (making n))
made_due n held held_before held_after steps_before steps_after status made held_is write memory =
    let now = held_now held made.0 held_after (subst (λ h. Appends h held_after made.0) held_is made.1) in
    elim made.2 [
      | inl h ↦ (now ∙ ap (λ line. Some (held ++ line)) h.1, h.0)
      | inr (inl h) ↦ absurd (write h.0)
      | inr (inr h) ↦ absurd (memory h.0)
    ]

pub can_serve : (words : List (String Global)) (r : Request) → Ask words r → CanServe r
can_serve words (request.Debug binary setup) ask = tt
can_serve words (request.Check binary) ask = tt
can_serve words (request.Make number) ask = (ask.1, ask.2)
can_serve words (request.Text binary) ask = tt
can_serve words (request.Help text) ask = tt

-- ---- memory ran out before anything was asked for

asks_nothing : (asked : Asked) → AsksFor asked asked []
asks_nothing None = tt
asks_nothing (Some names) = sym (append-nil names)

pub nothing_debugged : (settings : Settings) (names : PairNames) (outside : Outside) (unread : Type 0) → unread → Debugged settings names outside outside unread NoMemory
nothing_debugged settings names outside unread kept = Unopened NoMemory (inr (inr (refl, inl (asks_nothing outside.files.asked)))) kept (Keeps-refl outside.streams.held) refl

pub nothing_answered : (due : List ℕ → Status) (line : List ℕ → List ℕ) (name : List ℕ) (files : Library) (held : Option (List ℕ)) → Answered due line name files files held held NoMemory
nothing_answered due line name files held = Unread NoMemory (inr (inr (refl, inl (asks_nothing files.asked)))) (Keeps-refl held)
