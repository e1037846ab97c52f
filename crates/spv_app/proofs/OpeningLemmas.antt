-- A setup that has a schedule for a module fits it.
use Rattle.std.proofs.Common.{◌≡◌, Result, Ok, Err, refl}
use Rattle.std.specs.Prelude.{IsOk}
use Rattle.spv_base.specs.declared.causes.SetupRefusal.{SetupRefusal}
use Rattle.spv_setup.specs.declared.settings.Settings.{Settings}
use Rattle.spv_setup.specs.Schedule.{Entries}
use Rattle.spv_valid.specs.Acceptance.{Accepted}
use Rattle.spv_state.specs.Program.{IsFitting, schedule_for}
use Rattle.spv_app.specs.Opening.{of_setup}

pub fitting : (a : Accepted) (s : Settings) (entries : Entries) → of_setup (schedule_for a s) ≡ Ok entries → IsFitting a s
fitting a s entries h = by_result (schedule_for a s) h
  where
    by_result : (r : Result Entries SetupRefusal) → of_setup r ≡ Ok entries → IsOk r
    by_result (Ok x) g = refl
    by_result (Err e) g = absurd (cc)

pub scheduled : (a : Accepted) (s : Settings) (entries : Entries) → of_setup (schedule_for a s) ≡ Ok entries → schedule_for a s ≡ Ok entries
scheduled a s entries h = by_result (schedule_for a s) h
  where
    by_result : (r : Result Entries SetupRefusal) → of_setup r ≡ Ok entries → r ≡ Ok entries
    by_result (Ok x) g = cc
    by_result (Err e) g = absurd (cc)
