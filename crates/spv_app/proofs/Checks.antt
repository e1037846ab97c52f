-- What is due of `check` and `text` where nothing fails, from what each status says.
use Rattle.std.proofs.Common.{◌≡◌, ◌≢◌, ◌↔◌, inl, inr, ℕ, ◌≤◌, ◌<◌, List, ◌++◌, length, sym, ap, ◌∙◌, subst, Option, Some, Err, refl}
use Rattle.std.specs.Io.KnownBytes.{Appends}
use Rattle.spv_base.specs.Outside.{Told, Asked, Holds, HoldsMore, Asks, Reads, CountsFailure}
use Rattle.spv_base.specs.declared.causes.FileErr.{FileErr}
use Rattle.spv_base.specs.declared.causes.FileErr.TheVariants.{Failed, TooLong}
use Rattle.spv_base.specs.declared.causes.FileErr.TheVariants as error
use Rattle.spv_loop.specs.declared.status.Status.{Status}
use Rattle.spv_loop.specs.declared.status.Status.TheVariants.{FileFault, ReadFault, WriteFault, NoMemory}
use Rattle.spv_app.specs.Debug.{SaysLine}
use Rattle.spv_loop.specs.FileStatus.{status_of_file}
use Rattle.spv_app.specs.Limits.{binary_limit}
use Rattle.spv_app.specs.Outside.{Library}
use Rattle.spv_app.specs.Checking.{Answered, Unread, Read, SaysUnread}
use Rattle.spv_app.proofs.Headlines.{NothingFails, held_now, same_content, not_more, line_whole, not_counted}

module _ (due : List ℕ → Status) (line : List ℕ → List ℕ) (m : List ℕ → Option (List ℕ)) (name : List ℕ) (before after : Library) (held_before held_after : Option (List ℕ)) (held : List ℕ) (status : Status)
    (told : before.told ≡ Some m) (held_is : held_before ≡ Some held)
    (binary : List ℕ) (binary_is : m name ≡ Some binary) (few : length binary ≤ binary_limit) (ok : NothingFails status) where
  abbrev Due : List ℕ → Type 0
  Due bytes = (held_after ≡ Some (held ++ line bytes)) × (status ≡ due bytes)

  due_of : Answered due line name before after held_before held_after status → Due binary
  due_of (Unread status says kept) =
      elim says [
        | inl fault ↦ absurd (ok.file fault.0)
        | inr (inl long) ↦ absurd (not_more m name binary binary_limit binary_is few (subst (λ t. HoldsMore t name binary_limit) told long.2))
        | inr (inr memory) ↦ absurd (ok.memory memory.0)
      ]
  due_of (Read status b put asks read wrote says) =
      let whole = line_whole (due b) status (line b) put ok says in
      let now = held_now held put held_after (subst (λ h. Appends h held_after put) held_is wrote) in
      subst (λ bytes. Due bytes) (same_content m name b binary (subst (λ t. Holds t name b) told read.content) binary_is) (now ∙ ap (λ l. Some (held ++ l)) whole.1, whole.0)

pub nothing_fails : (status : Status) (files_old files_new writes_old writes_new : ℕ)
    → (status ≡ FileFault) ↔ (files_old < files_new) → status ≢ ReadFault → (status ≡ WriteFault) ↔ (writes_old < writes_new)
    → files_new ≡ files_old → writes_new ≡ writes_old → status ≢ NoMemory → NothingFails status
nothing_fails status files_old files_new writes_old writes_new file read write files writes memory = record {
  file = not_counted status FileFault files_old files_new file files;
  read = read;
  write = not_counted status WriteFault writes_old writes_new write writes;
  memory = memory;
}

pub answered_headline : (due : List ℕ → Status) (line : List ℕ → List ℕ) (name read_name : List ℕ) (before after : Library) (held_before held_after : Option (List ℕ)) (status : Status)
    (m : List ℕ → Option (List ℕ)) (binary held : List ℕ)
    → read_name ≡ name → Answered due line read_name before after held_before held_after status → NothingFails status
    → before.told ≡ Some m → m name ≡ Some binary → length binary ≤ binary_limit → held_before ≡ Some held
    → (held_after ≡ Some (held ++ line binary)) × (status ≡ due binary)
answered_headline due line name read_name before after held_before held_after status m binary held same_name answered ok told binary_is few held_is =
    due_of due line m name before after held_before held_after held status told held_is binary binary_is few ok
    (subst (λ n. Answered due line n before after held_before held_after status) same_name answered)

-- ---- the calls

-- why the module's name wasn't read
pub says_unread : (name : List ℕ) (told : Told) (asked asked_after : Asked) (taken_after : ℕ) (failed failed_after : List ℕ) (faults faults_after : ℕ) (error : FileErr)
    → Reads told name binary_limit taken_after (Err error) → Asks asked asked_after name (Err error) → CountsFailure name faults faults_after failed failed_after (Err error)
    → SaysUnread name (record { told = told; asked = asked; taken = 0; failed = failed }) (record { told = told; asked = asked_after; taken = taken_after; failed = failed_after }) (status_of_file error)
says_unread name told asked asked_after taken_after failed failed_after faults faults_after Failed reads asks counts = inl (refl, counts.1, asks)
says_unread name told asked asked_after taken_after failed failed_after faults faults_after TooLong reads asks counts = inr (inl (refl, reads.0, reads.1, asks))
says_unread name told asked asked_after taken_after failed failed_after faults faults_after error.NoMemory reads asks counts = inr (inr (refl, asks))

-- what was written is what is due
pub says_due : {D : Type 0} (due_of : List ℕ → D) (status_of : D → Status) (line_of : D → List ℕ) (binary bytes put : List ℕ) (due : D) (status : Status) → bytes ≡ binary → due_of bytes ≡ due
    → SaysLine (status_of due) (line_of due) status put → SaysLine (status_of (due_of binary)) (line_of (due_of binary)) status put
says_due due_of status_of line_of binary bytes put due status same is says = subst (λ d. SaysLine (status_of d) (line_of d) status put) (sym is ∙ ap due_of same) says
