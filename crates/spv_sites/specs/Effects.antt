-- What an instruction does to a state: the part of memory and the register that it sets, and where control goes, or why it faults.
use Rattle.std.specs.Prelude.{ℕ, List, Option, Some, None, Result, Ok, ok_or}
use Rattle.spv_base.specs.Cell.{Cell}
use Rattle.spv_base.specs.Variables.{Roots}
use Rattle.spv_base.specs.declared.instructions.Inst.{Inst}
use Rattle.spv_base.specs.declared.values.Pointer.{Pointer}
use Rattle.spv_base.specs.declared.values.Value.{Value, out-Value}
use Rattle.spv_valid.specs.Below.spv_ops.specs.Steps.{◌>>=◌}
use Rattle.spv_effects.specs.Lanes.{lane_of}
use Rattle.spv_valid.specs.Below.spv_types.specs.Shapes.{pointer_in}
use Rattle.spv_mem.specs.Memory.{load_of}
use Rattle.spv_frame.specs.Frames.{Held as Frame}
use Rattle.spv_operands.specs.Values.{operand_value}
use Rattle.spv_state.specs.Program.{Program}
use Rattle.spv_state.specs.State.{State, depth_of}
use Rattle.spv_sites.specs.declared.causes.Cause.{Cause}
use Rattle.spv_sites.specs.declared.causes.Cause.TheVariants.{UndefinedBranch, UndefinedIndex, OutOfBounds, NoValue, Unreachable}

-- where control goes
pub data Control : Type 0 where
  -- to the next executable of the block
  Next : Control
  -- to a block of the function, whose phis all take their values at once
  Jump : (block : ℕ) (phis : List (ℕ × Value)) → Control
  -- into a function: a frame with its variables, above the one that calls
  Enter : (frame : Frame) (variables : Roots) → Control
  -- out of the function, with what it gives to the call
  Leave : (value : Option Value) → Control
  -- nowhere: the invocation waits at the barrier
  Wait : Control

pub record Effect : Type 0 where
  pub store : Option (Pointer × Value)  -- the part of memory that is set, and its value
  pub result : Option Value  -- of the register that the instruction's id names
  pub control : Control

-- the number of a fault: F1 to F5
abbrev pub code_of : Cause → ℕ
code_of UndefinedBranch = 1
code_of UndefinedIndex = 2
code_of OutOfBounds = 3
code_of NoValue = 4
code_of Unreachable = 5

-- ---- what is read, in the top frame of an invocation

-- an operand, by its number behind the result; F4 where it has no value
abbrev pub operand : Program → State → ℕ → Frame → Inst → ℕ → Result Value Cause
operand p s i f d n = ok_or (operand_value p.accepted f (depth_of s i) d n) NoValue

-- The scalar that an operand is. A value of a scalar type has one lane, so the cell of width 0 that `lane_of` gives otherwise is never read
-- (values_are_their_lanes of spv_effects).
abbrev pub scalar : Program → State → ℕ → Frame → Inst → ℕ → Result Cell Cause
scalar p s i f d n = operand p s i f d n >>= (λ v. Ok (lane_of v))

-- The pointer that a value is. Where an instruction of an accepted module reads one, its operand's type is a pointer type, so the value is one
-- (operands_have_shapes of spv_operands: pointers).
abbrev pub pointer : Value → Result Pointer Cause
pointer v = ok_or (pointer_in (out-Value v)) OutOfBounds

-- the part of memory that a pointer names; F3 where there is none
abbrev pub loaded : State → ℕ → Pointer → Result Value Cause
loaded s i q = ok_or (load_of s.memory i q) OutOfBounds

-- ---- effects

-- on to the next executable
abbrev pub passes : Effect
passes = record { store = None; result = None; control = Next }

-- a result, and on
abbrev pub gives : Value → Effect
gives v = record { store = None; result = Some v; control = Next }

-- a value for a part of memory, and on
abbrev pub sets : Pointer → Value → Effect
sets q v = record { store = Some (q, v); result = None; control = Next }

-- control alone
abbrev pub goes : Control → Effect
goes c = record { store = None; result = None; control = c }
