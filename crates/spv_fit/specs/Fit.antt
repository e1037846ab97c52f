-- The fit of a setup to a module: the schedule, or the first refusal in the order of the rules.
use Rattle.std.specs.Prelude.{ℕ, List, Result, Ok}
use Rattle.spv_base.specs.Answers.{after}
use Rattle.spv_base.specs.declared.causes.SetupRefusal.{SetupRefusal}
use Rattle.spv_base.specs.declared.instructions.Inst.{Inst}
use Rattle.spv_types.specs.Types.{Types}
use Rattle.spv_setup.specs.declared.settings.Settings.{Settings}
use Rattle.spv_setup.specs.Schedule.{Entries, check_moves, schedule_of}
use Rattle.spv_fit.specs.Numbers.{check_numbers}
use Rattle.spv_fit.specs.Given.{check_bytes}
use Rattle.spv_fit.specs.Cells.{check_cells}

-- for so many invocations, of which the frames of one have so many cells at most: each `move` names one (S5), each number is for
-- constants that it fits (S8), there are not too many entries (S9), each variable of a block has bytes (S6), and enough of them
-- (S7), and there are not too many cells (S10)
unfoldable pub fitted : List Inst → Types → ℕ → ℕ → Settings → Result Entries SetupRefusal
fitted all ts invocations frames s =
    after (check_moves invocations s.runs) (λ _.
    after (check_numbers all ts s.overrides s.override_lines) (λ _.
    after (schedule_of invocations s.runs) (λ schedule.
    after (check_bytes all ts s) (λ _.
    after (check_cells all ts s invocations frames) (λ _.
    Ok schedule)))))
