-- How a step records an event. No definition of a step speaks of it.
use Rattle.std.specs.Prelude.{◌≡◌, ◌≤◌, ℕ, ◌+◌, true, length, Option, Some, None, Result, Ok, Err}
use Rattle.spv_base.specs.declared.instructions.Inst.{Inst}
use Rattle.spv_base.specs.declared.happenings.Happening.{Happening}
use Rattle.spv_base.specs.declared.values.Pointer.{Pointer}
use Rattle.spv_base.specs.declared.values.Value.{Value}
use Rattle.spv_actions.specs.Below.spv_types.specs.Rows.{leaves}
use Rattle.spv_valid.specs.Acceptance.{Accepted}
use Rattle.spv_sites.specs.Effects.{Control, Effect, Next, Jump, Enter, Leave, Wait}
use Rattle.spv_journal.specs.Held.{Held as Recorded}
use Rattle.spv_state.specs.Program.{Program}
use Rattle.spv_state.specs.State.{State}
use Rattle.spv_machine.specs.Weights.{events_appended, leaves_in, puts_back, registers_set, taking}
use Rattle.spv_machine.specs.World.{IsRecorded, seen}
use Rattle.spv_machine.specs.declared.execution.Did.{Did}
use Rattle.spv_machine.specs.declared.execution.Did.TheVariants.{Idle, Moved}
use Rattle.spv_machine.specs.declared.execution.StepErr.{StepErr}
use Rattle.spv_machine.specs.declared.execution.StepErr.TheVariants.{Fault as Faulted, NoMemory}

-- ---- how many entries the parts of an effect add to an event that is being made, at most

abbrev pub store_entries : Option (Pointer × Value) → ℕ
store_entries None = 0
store_entries (Some e) = 1 + length (leaves e.1)

-- Beside registers and debug events: a pc moves or a frame comes; the top frame goes, and another one's pc moves, or a status changes and a
-- barrier opens; a status changes and a barrier opens.
abbrev pub turns : Control → ℕ
turns Next = 1
turns (Jump block phis) = 1
turns (Enter frame es) = 1
turns (Leave v) = 3
turns Wait = 2

-- control leads to a state
abbrev pub control_entries : Accepted → ℕ → Control → State → ℕ
control_entries a i c t = registers_set c + events_appended a i c t + turns c

abbrev pub effect_entries : Accepted → ℕ → Effect → State → ℕ
effect_entries a i e t = store_entries e.store + taking e.result + control_entries a i e.control t

-- An effect that puts back what was there is recorded by one leaf, and goes on.
pub record IsSingle (e : Effect) : Type 0 where
  pub leaves : leaves_in e.store ≤ 1
  pub next : e.control ≡ Next

abbrev pub IsSingleBack : Program → State → ℕ → Inst → Effect → Type 0
IsSingleBack p s i d e = puts_back p s i d e ≡ true → IsSingle e

-- ---- an event that was made

-- the event and the state behind it, recorded; without memory all is as before
abbrev pub Made : Happening → State → ℕ → Result Did StepErr → Recorded → Recorded → Type 0
Made h next weight (Ok (Moved g)) old new = (g ≡ h) × (new.state ≡ next) × (new.gathered ≡ None) × IsRecorded h weight (seen old) (seen new)
Made h next weight (Ok Idle) old new = ⊥
Made h next weight (Err (Faulted f)) old new = ⊥
Made h next weight (Err NoMemory) old new = new ≡ old
