-- The schedule of a setup that fits a module is for the module's invocations.
use Rattle.std.proofs.Common.{◌≡◌, Result, Ok, Err, refl, subst}
use Rattle.spv_base.specs.Answers.{after}
use Rattle.spv_base.specs.declared.causes.SetupRefusal.{SetupRefusal}
use Rattle.spv_setup.specs.declared.settings.Settings.{Settings}
use Rattle.spv_setup.specs.Schedule.{Entries, check_moves, schedule_of}
use Rattle.spv_initial.specs.Below.spv_fit.specs.Cells.{check_cells}
use Rattle.spv_initial.specs.Below.spv_fit.specs.Fit.{fitted}
use Rattle.spv_initial.specs.Below.spv_fit.specs.Given.{check_bytes}
use Rattle.spv_initial.specs.Below.spv_fit.specs.Numbers.{check_numbers}
use Rattle.spv_initial.specs.Below.spv_fit.proofs.Exports.{schedule_counts as counts}
use Rattle.spv_valid.specs.Acceptance.{Accepted, invocations}
use Rattle.spv_state.specs.Program.{schedule_for}

after_is : {A B : Type 0} (r : Result A SetupRefusal) (f : A → Result B SetupRefusal) (y : B) → after r f ≡ Ok y → (x : A) × (r ≡ Ok x) × (f x ≡ Ok y)
after_is (Ok x) f y h = (x, refl, h)
after_is (Err e) f y h = absurd (cc)

pub schedule_counts : (a : Accepted) (s : Settings) (schedule : Entries) → schedule_for a s ≡ Ok schedule → schedule.invocations ≡ invocations a
unfolding fitted
schedule_counts a s schedule h =
    let moves = after_is (check_moves (invocations a) s.runs) _ schedule h in
    let numbers = after_is (check_numbers a.insts a.types s.overrides s.override_lines) _ schedule moves.2 in
    let made = after_is (schedule_of (invocations a) s.runs) _ schedule numbers.2 in
    let bytes = after_is (check_bytes a.insts a.types s) _ schedule made.2 in
    let cells = after_is (check_cells a.insts a.types s (invocations a) a.stack_cells) _ schedule bytes.2 in
    let same : made.0 ≡ schedule = let own = cells.2 in cc in
    subst (λ (x : Entries). x.invocations ≡ invocations a) same (counts (invocations a) s.runs made.0 made.1)
