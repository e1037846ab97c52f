-- What a call of step does, by the outcome that is due.
use Rattle.std.specs.Prelude.{◌≡◌, ℕ, Result, Ok, Err}
use Rattle.spv_machine.specs.declared.execution.Did.{Did}
use Rattle.spv_machine.specs.declared.execution.Did.TheVariants.{Idle, Moved}
use Rattle.spv_machine.specs.declared.execution.StepErr.{StepErr}
use Rattle.spv_machine.specs.declared.execution.StepErr.TheVariants.{Fault as Faulted, NoMemory}
use Rattle.spv_machine.specs.Step.{Outcome, Idles, Moves, Faults, idle}
use Rattle.spv_machine.specs.World.{Held, IsRecorded}

-- A call of step gives what is due and records the event, or finds no memory. After a fault and without memory the world is as before,
-- with all that can be undone.
abbrev pub Does : ℕ → Outcome → ℕ → Result Did StepErr → Held → Held → Type 0
Does i due weight (Ok Idle) old new = (due ≡ Idles) × (new.state ≡ old.state) × IsRecorded (idle i) weight old new
Does i due weight (Ok (Moved h)) old new = (due ≡ Moves h new.state) × IsRecorded h weight old new
Does i due weight (Err (Faulted f)) old new = (due ≡ Faults f) × (new ≡ old)
Does i due weight (Err NoMemory) old new = new ≡ old
