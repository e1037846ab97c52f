-- An instruction that is due: what is known of a state where an invocation has reached it.
use Rattle.std.specs.Prelude.{◌≡◌, ℕ, Some, None, ⊤, slice_get, Result, Ok, Err}
use Rattle.std.specs.List.{AllByRecursion}
use Rattle.spv_base.specs.declared.causes.Fail.{Fail}
use Rattle.spv_base.specs.declared.causes.Fail.TheVariants.{Refused, NoMemory}
use Rattle.spv_base.specs.declared.instructions.Inst.{Inst}
use Rattle.spv_base.specs.declared.values.Value.{Value, Scalar, out-Value}
use Rattle.spv_index.specs.Definitions.{at}
use Rattle.spv_actions.specs.Below.spv_types.specs.Shapes.{pointer_in}
use Rattle.spv_frame.specs.Frames.{Held as Frame}
use Rattle.spv_statuses.specs.declared.invocations.Status.TheVariants.{Ready}
use Rattle.spv_sites.specs.Effects.{code_of}
use Rattle.spv_sites.specs.Planned.{IsPlain, shown}
use Rattle.spv_state.specs.Program.{Program}
use Rattle.spv_state.specs.Sound.{IsSound}
use Rattle.spv_state.specs.State.{State, top_of}
use Rattle.spv_machine.specs.Step.{Moves, Faults, apply, happening_of, step_of}
use Rattle.spv_sites.specs.declared.causes.Cause.{Cause}
use Rattle.spv_sites.specs.declared.effects.Control.{Control}
use Rattle.spv_sites.specs.declared.effects.Control.TheVariants.{Jump, Leave}
use Rattle.spv_sites.specs.declared.effects.Effect.{Effect}
use Rattle.spv_sites.specs.declared.effects.Gain.{Gain}
use Rattle.spv_sites.specs.declared.effects.Gain.TheVariants.{Nothing, Row, Pointer, Handed}
use Rattle.spv_sites.specs.declared.effects.PhiValue.{PhiValue}

-- the top frame of a Ready invocation of a sound state stands at the instruction
pub record IsReached (p : Program) (s : State) (i : ℕ) (d : Inst) : Type 0 where
  pub sound : IsSound p s
  pub ready : slice_get s.statuses.list i ≡ Some Ready
  pub frame : Frame
  pub top : top_of s i ≡ Some frame
  pub at : at p.accepted.insts frame.pc ≡ Some d

-- what a step of the invocation is, by the effect that was worked out; nothing is said where memory ran out
abbrev pub IsStepBy : Program → State → ℕ → Inst → Value → Result Effect (Fail Cause) → Type 0
IsStepBy p s i d v (Ok e) = step_of p s i ≡ Moves (happening_of p s i d.word (shown e v)) (apply p i d (shown e v) s)
IsStepBy p s i d v (Err (Refused cause)) = step_of p s i ≡ Faults (record { code = code_of cause; inv = i; word = d.word })
IsStepBy p s i d v (Err NoMemory) = ⊤

-- what a register takes lies in the row, where it takes a value
abbrev pub IsHeld : Gain → Value → Type 0
IsHeld Nothing v = ⊤
IsHeld Row v = pointer_in (out-Value v) ≡ None
IsHeld (Pointer b) v = ⊤
IsHeld (Handed c) v = v ≡ Scalar c

-- and so does what a function gives; what a phi takes from a row of its own is a value too
abbrev pub IsCarried : Control → Value → Type 0
IsCarried (Jump block phis) v = AllByRecursion (λ (p : PhiValue). IsPlain p.value) phis.items
IsCarried (Leave given) v = IsHeld given v
IsCarried _ v = ⊤
