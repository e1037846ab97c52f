-- A program: an accepted module, and a setup that fits it.
use Rattle.std.specs.Prelude.{ℕ, IsOk, Result, suc, ◌-◌, length, slice_get}
use Rattle.std.specs.Option.{option_map_or}
use Rattle.spv_base.specs.declared.causes.SetupRefusal.{SetupRefusal}
use Rattle.spv_base.specs.declared.instructions.Inst.{Inst}
use Rattle.spv_setup.specs.Schedule.{Entries}
use Rattle.spv_setup.specs.declared.settings.Settings.{Settings}
use Rattle.spv_initial.specs.Below.spv_fit.specs.Fit.{fitted}
use Rattle.spv_valid.specs.Acceptance.{Accepted, invocations}

-- what callers see of a module that runs
pub record Program : Type 0 where
  pub accepted : Accepted
  pub setup : Settings

-- the schedule of a setup that fits a module, or the first rule of the fit that is broken
abbrev pub schedule_for : Accepted → Settings → Result Entries SetupRefusal
schedule_for a s = fitted a.insts a.types (invocations a) a.stack_cells s

-- a setup fits a module: it has bytes for each variable of a block, and keeps the other rules of setups
abbrev pub IsFitting : Accepted → Settings → Type 0
IsFitting a s = IsOk (schedule_for a s)

-- one more than the word of the last instruction; an accepted module has a function, and so an instruction
abbrev pub words_of : Accepted → ℕ
words_of a = option_map_or (λ (i : Inst). suc i.word) (slice_get a.insts (length a.insts - 1)) 0
