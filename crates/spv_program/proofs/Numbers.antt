-- The number of a status tells it.
use Rattle.std.proofs.Common.{◌≡◌, ◌↔◌, ◌<◌, ℕ, ◌==◌, if◌then◌else◌, refl, sym, ap, ◌∙◌}
use Rattle.spv_app.specs.Statuses.{status_number, Status, Done, Usage, ModuleRefused, SetupRefused, FileFault, ReadFault, WriteFault, NoMemory, InputTooLong, FileTooLong}

abbrev status_at : ℕ → Status
status_at n =
    if n == 0 then Done else if n == 2 then Usage else if n == 3 then ModuleRefused else if n == 4 then SetupRefused else if n == 5 then FileFault
    else if n == 6 then ReadFault else if n == 7 then WriteFault else if n == 8 then NoMemory else if n == 9 then InputTooLong else FileTooLong

same_status : (s : Status) → status_at (status_number s) ≡ s
same_status Done = refl
same_status Usage = refl
same_status ModuleRefused = refl
same_status SetupRefused = refl
same_status FileFault = refl
same_status ReadFault = refl
same_status WriteFault = refl
same_status NoMemory = refl
same_status InputTooLong = refl
same_status FileTooLong = refl

-- a code that is the number of a status tells what the status tells
pub code_counts : (code : ℕ) (status due : Status) (old new : ℕ) → code ≡ status_number status → (status ≡ due) ↔ (old < new) → (code ≡ status_number due) ↔ (old < new)
code_counts code status due old new is told = (
  (λ h. told.0 (sym (same_status status) ∙ ap status_at (sym is ∙ h) ∙ same_status due)),
  (λ more. is ∙ ap status_number (told.1 more)),
)
