-- What is due where nothing fails, from what each status says.
use Rattle.std.proofs.Common.{◌≡◌, ◌≢◌, ◌↔◌, inl, inr, ℕ, ◌+◌, ◌≤◌, ◌<◌, List, [], ◌++◌, length, length-append, refl, sym, ap, ◌∙◌, subst, Option, Some, None, unwrap_or, Result, arith}
use Rattle.std.specs.Io.KnownBytes.{Appends, Consumes}
use Rattle.spv_base.specs.Outside.{Holds, HoldsMore}
use Rattle.spv_loop.specs.Sessions.{Held as Group, Settings, View, first_view, reply}
use Rattle.spv_loop.specs.declared.status.Status.{Status}
use Rattle.spv_loop.specs.declared.status.Status.TheVariants.{Done, Usage, ModuleRefused, SetupRefused, FileFault, ReadFault, WriteFault, NoMemory, InputTooLong, FileTooLong}
use Rattle.spv_app.specs.declared.opening.OpeningRefusal.{OpeningRefusal}
use Rattle.spv_loop.specs.Lines.{lines_of}
use Rattle.spv_loop.specs.Transcript.{Reply, transcript}
use Rattle.spv_arguments.specs.Requests.{PairNames}
use Rattle.spv_loop.specs.CommandLoop.{Says, with_rest}
use Rattle.spv_app.specs.Opening.{opening, refusal_line}
use Rattle.spv_app.specs.Limits.{binary_limit, setup_limit}
use Rattle.spv_loop.specs.Limits.{input_limit}
use Rattle.spv_app.specs.Outside.{Library, Outside}
use Rattle.spv_app.specs.Debug.{Debugged, Unopened, Refused, Opened, IsPair, IsTooLong, SaysLine, status_of_refusal, due_text, due_status}

-- none of these is the status
pub record NothingFails (status : Status) : Type 0 where
  pub file : status ≢ FileFault
  pub read : status ≢ ReadFault
  pub write : status ≢ WriteFault
  pub memory : status ≢ NoMemory

-- what a sink holds after more was written
pub held_now : (before put : List ℕ) (held : Option (List ℕ)) → Appends (Some before) held put → held ≡ Some (before ++ put)
held_now before put None h = absurd h
held_now before put (Some ys) h = ap Some h

-- all that was left is what was taken and what is left now
pub all_of : (xs got : List ℕ) (left : Option (List ℕ)) → Consumes (Some xs) left got → with_rest got left ≡ xs
all_of xs got None h = absurd h
all_of xs got (Some ys) h = sym h

-- a name has one content
pub same_content : (m : List ℕ → Option (List ℕ)) (name xs ys : List ℕ) → m name ≡ Some xs → m name ≡ Some ys → xs ≡ ys
same_content m name xs ys p q = cc

pub not_more : (m : List ℕ → Option (List ℕ)) (name xs : List ℕ) (limit : ℕ) → m name ≡ Some xs → length xs ≤ limit → HoldsMore (Some m) name limit → ⊥
not_more m name xs limit p few more =
    let e : length more.0 ≡ length xs = ap length (same_content m name more.0 xs more.1 p) in
    omega arith

not_too_long : (m : List ℕ → Option (List ℕ)) (names : PairNames) (binary setup : List ℕ) (before after : Library) → before.told ≡ Some m → m names.binary ≡ Some binary → m names.setup ≡ Some setup
    → length binary ≤ binary_limit → length setup ≤ setup_limit → IsTooLong names before after → ⊥
not_too_long m names binary setup before after told p q few_binary few_setup (inl h) = not_more m names.binary binary binary_limit p few_binary (subst (λ t. HoldsMore t names.binary binary_limit) told h.1)
not_too_long m names binary setup before after told p q few_binary few_setup (inr h) = not_more m names.setup setup setup_limit q few_setup (subst (λ t. HoldsMore t names.setup setup_limit) told h.1)

-- the line was written whole
pub line_whole : (due status : Status) (line put : List ℕ) → NothingFails status → SaysLine due line status put → (status ≡ due) × (put ≡ line)
line_whole due status line put ok (inl h) = h
line_whole due status line put ok (inr (inl h)) = absurd (ok.write h.0)
line_whole due status line put ok (inr (inr h)) = absurd (ok.memory h.0)

-- the command loop answered all lines
loop_whole : (r : Reply) (view : View) (status : Status) (xs got put : List ℕ) (left : Option (List ℕ)) → NothingFails status → Consumes (Some xs) left got → length xs ≤ input_limit
    → (status ≡ InputTooLong → length got ≡ input_limit + 1) → Says r status view got (with_rest got left) put → (status ≡ Done) × (put ≡ transcript r view (lines_of xs))
loop_whole r view Done xs got put left ok took few long says = (refl, says.0 ∙ ap (λ l. transcript r view (lines_of l)) (all_of xs got left took))
loop_whole r view ReadFault xs got put left ok took few long says = absurd (ok.read refl)
loop_whole r view WriteFault xs got put left ok took few long says = absurd (ok.write refl)
loop_whole r view NoMemory xs got put left ok took few long says = absurd (ok.memory refl)
loop_whole r view InputTooLong xs got put left ok took few long says =
    let e : length got + length (unwrap_or left []) ≡ length xs = sym (length-append got (unwrap_or left [])) ∙ ap length (all_of xs got left took) in
    let n : length got ≡ 16777217 = long refl in
    absurd (omega arith)
loop_whole r view Usage xs got put left ok took few long says = absurd says
loop_whole r view ModuleRefused xs got put left ok took few long says = absurd says
loop_whole r view SetupRefused xs got put left ok took few long says = absurd says
loop_whole r view FileFault xs got put left ok took few long says = absurd says
loop_whole r view FileTooLong xs got put left ok took few long says = absurd says

module _ (settings : Settings) (m : List ℕ → Option (List ℕ)) (names : PairNames) (before after : Outside) (unread : Type 0) (xs held : List ℕ) (status : Status)
    (told : before.files.told ≡ Some m) (left_is : before.streams.left ≡ Some xs) (held_is : before.streams.held ≡ Some held)
    (binary setup : List ℕ) (binary_is : m names.binary ≡ Some binary) (setup_is : m names.setup ≡ Some setup)
    (few_binary : length binary ≤ binary_limit) (few_setup : length setup ≤ setup_limit) (few : length xs ≤ input_limit) (ok : NothingFails status) where
  abbrev Due : Result Group OpeningRefusal → Type 0
  Due opened = (after.streams.held ≡ Some (held ++ due_text settings opened xs)) × (status ≡ due_status opened)

  -- the pair that was read is the one that is told
  same_pair : (binary' setup' : List ℕ) → IsPair before.files.told names binary' setup' → opening binary' setup' ≡ opening binary setup
  same_pair binary' setup' pair =
      ap (λ b. opening b setup') (same_content m names.binary binary' binary (subst (λ t. Holds t names.binary binary') told pair.binary_is) binary_is)
      ∙ ap (opening binary) (same_content m names.setup setup' setup (subst (λ t. Holds t names.setup setup') told pair.setup_is) setup_is)

  -- what the sink holds when this was written
  held_with : (put : List ℕ) → Appends before.streams.held after.streams.held put → after.streams.held ≡ Some (held ++ put)
  held_with put wrote = held_now held put after.streams.held (subst (λ h. Appends h after.streams.held put) held_is wrote)

  due_of : Debugged settings names before after unread status → Due (opening binary setup)
  due_of (Unopened status says unread kept steps) =
      elim says [
        | inl fault ↦ absurd (ok.file fault.0)
        | inr (inl long) ↦ absurd (not_too_long m names binary setup before.files after.files told binary_is setup_is few_binary few_setup long.1)
        | inr (inr memory) ↦ absurd (ok.memory memory.0)
      ]
  due_of (Refused status b s refusal put asks pair refused unread wrote says steps) =
      let whole = line_whole (status_of_refusal refusal) status (refusal_line refusal) put ok says in
      subst Due (sym refused ∙ same_pair b s pair) (held_with put wrote ∙ ap (λ l. Some (held ++ l)) whole.1, whole.0)
  due_of (Opened status b s group asks pair opened ran) =
      let whole = loop_whole (reply settings) (first_view group) status xs ran.got ran.put after.streams.left ok (subst (λ l. Consumes l after.streams.left ran.got) left_is ran.taken) few ran.too_long.0 ran.says in
      subst Due (sym opened ∙ same_pair b s pair) (held_with ran.put ran.written ∙ ap (λ l. Some (held ++ l)) whole.1, whole.0)

-- a status that tells faults isn't it where none was counted
pub not_counted : (status fault : Status) (old new : ℕ) → (status ≡ fault) ↔ (old < new) → new ≡ old → status ≢ fault
not_counted status fault old new told same h =
    let more : old < new = told.0 h in
    absurd (omega arith)

pub nothing_fails : (status : Status) (files_old files_new reads_old reads_new writes_old writes_new : ℕ)
    → (status ≡ FileFault) ↔ (files_old < files_new) → (status ≡ ReadFault) ↔ (reads_old < reads_new) → (status ≡ WriteFault) ↔ (writes_old < writes_new)
    → files_new ≡ files_old → reads_new ≡ reads_old → writes_new ≡ writes_old → status ≢ NoMemory → NothingFails status
nothing_fails status files_old files_new reads_old reads_new writes_old writes_new file read write files reads writes memory = record {
  file = not_counted status FileFault files_old files_new file files;
  read = not_counted status ReadFault reads_old reads_new read reads;
  write = not_counted status WriteFault writes_old writes_new write writes;
  memory = memory;
}

pub headline : (settings : Settings) (names read_names : PairNames) (before after : Outside) (unread : Type 0) (status : Status)
    (m : List ℕ → Option (List ℕ)) (binary setup xs held : List ℕ)
    → read_names ≡ names → Debugged settings read_names before after unread status → NothingFails status
    → before.files.told ≡ Some m → m names.binary ≡ Some binary → m names.setup ≡ Some setup → length binary ≤ binary_limit → length setup ≤ setup_limit
    → before.streams.left ≡ Some xs → length xs ≤ input_limit → before.streams.held ≡ Some held
    → (after.streams.held ≡ Some (held ++ due_text settings (opening binary setup) xs)) × (status ≡ due_status (opening binary setup))
headline settings names read_names before after unread status m binary setup xs held same_names debugged ok told binary_is setup_is few_binary few_setup left_is few held_is =
    due_of settings m names before after unread xs held status told left_is held_is binary setup binary_is setup_is few_binary few_setup few ok
    (subst (λ n. Debugged settings n before after unread status) same_names debugged)
