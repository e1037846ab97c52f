-- What a predecoded instruction does that an invocation has reached. No definition of a step speaks of it.
use Rattle.std.specs.Prelude.{◌≡◌, ℕ, [], Some}
use Rattle.spv_base.specs.Entries.{reads}
use Rattle.spv_base.specs.declared.instructions.Inst.{Inst}
use Rattle.spv_frame.specs.Frames.{Held as Frame}
use Rattle.spv_actions.specs.Cells.{IsCellEffect}
use Rattle.spv_state.specs.Events.{captures_before}
use Rattle.spv_state.specs.Program.{Program}
use Rattle.spv_state.specs.State.{State, top_of}
use Rattle.spv_machine.specs.declared.cells.CellStep.{CellStep}

-- its effect, its word, and the executable behind it, before which no debug instruction stands
pub record IsCellStep (p : Program) (s : State) (i : ℕ) (d : Inst) (step : CellStep) : Type 0 where
  pub frame : Frame
  pub top : top_of s i ≡ Some frame
  pub effect : IsCellEffect (record { program = p; state = s; inv = i; frame = frame; inst = d }) step.effect
  pub word : step.word ≡ d.word
  pub next : reads d.word p.accepted.flow.nexts ≡ Some (Some step.next)
  pub silent : captures_before p.accepted step.next ≡ []
