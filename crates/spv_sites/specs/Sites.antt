-- An instruction that the top frame of an invocation has come to, what its operands stand for, and what calls inside a step find and
-- compute there. No definition of a step speaks of it.
use Rattle.std.specs.Prelude.{◌≡◌, ℕ, ◌<◌, not, if◌then◌else◌, Bool, true, false, length, Option, Some, None, IsSome, Result, Ok, Err, ⊤}
use Rattle.std.specs.Option.{option_map_or}
use Rattle.spv_base.specs.Variables.{root_id}
use Rattle.spv_base.specs.Entries.{reads}
use Rattle.spv_base.specs.declared.causes.Fail.{Fail}
use Rattle.spv_base.specs.declared.causes.Fail.TheVariants.{Refused, NoMemory}
use Rattle.spv_base.specs.declared.instructions.Inst.{Inst}
use Rattle.spv_base.specs.declared.values.Pointer.{Pointer as Reference}
use Rattle.spv_base.specs.declared.values.Value.{Value, Ptr}
use Rattle.spv_valid.specs.Below.spv_ops.specs.Steps.{◌>>=◌}
use Rattle.spv_index.specs.Definitions.{at}
use Rattle.spv_valid.specs.Below.spv_types.specs.Queries.{is_pointer}
use Rattle.spv_valid.specs.Below.spv_types.specs.Rows.{no_roots}
use Rattle.spv_valid.specs.Below.spv_types.specs.Shapes.{HasShape, reached_type}
use Rattle.spv_valid.specs.Below.spv_types.specs.Types.{Types, form_of}
use Rattle.spv_valid.specs.Below.spv_bodies.specs.Context.{type_at}
use Rattle.spv_valid.specs.Acceptance.{Accepted}
use Rattle.spv_frame.specs.Frames.{Held as Frame}
use Rattle.spv_mem.specs.Memory.{Held as Memory}
use Rattle.spv_mem.specs.Targets.{is_array_at}
use Rattle.spv_operands.specs.Shapes.{target_in}
use Rattle.spv_operands.specs.Values.{operand_value, value_of}
use Rattle.spv_state.specs.Below.spv_results.specs.Operands.{IsResult, known}
use Rattle.spv_state.specs.Below.spv_results.specs.Results.{result_by}
use Rattle.spv_state.specs.Below.spv_results.specs.declared.computations.Computation.{Computation}
use Rattle.spv_sites.specs.Atomics as atomics
use Rattle.spv_sites.specs.Effects as spec
use Rattle.spv_sites.specs.Effects.{loaded, pointer}
use Rattle.spv_sites.specs.Instructions.{effect_of}
use Rattle.spv_sites.specs.Planned.{gained}
use Rattle.spv_state.specs.Program.{Program}
use Rattle.spv_state.specs.Roots.{IsRoot}
use Rattle.spv_state.specs.Sound.{IsSound}
use Rattle.spv_state.specs.State.{State, depth_of, frames_of, top_of}
use Rattle.spv_sites.specs.declared.causes.Cause.{Cause}
use Rattle.spv_sites.specs.declared.causes.Cause.TheVariants.{NoValue}
use Rattle.spv_sites.specs.declared.effects.Gain.{Gain}
use Rattle.spv_sites.specs.declared.effects.Gain.TheVariants.{Nothing, Row, Pointer, Handed}

pub record Site : Type 0 where
  pub program : Program
  pub state : State
  pub inv : ℕ
  pub frame : Frame
  pub inst : Inst

-- in a sound state the top frame of an invocation stands at the instruction
pub record IsSite (x : Site) : Type 0 where
  pub inside : x.inv < length x.state.stacks
  pub sound : IsSound x.program x.state
  pub top : top_of x.state x.inv ≡ Some x.frame
  pub stands : at x.program.accepted.insts x.frame.pc ≡ Some x.inst

abbrev pub accepted : Site → Accepted
accepted x = x.program.accepted

-- what the instruction does, or why it faults
abbrev pub due : Site → Result spec.Effect Cause
due x = effect_of x.program x.state x.inv x.frame x.inst

-- ---- operands

-- the part of memory that a value leads to which is a pointer; F3 where there is none
abbrev pub part_of : Site → Value → Result Value Cause
part_of x v = pointer v >>= loaded x.state x.inv

-- the value of each operand that has one, by its number
abbrev pub values : Site → ℕ → Option Value
values x = operand_value (accepted x) x.frame (depth_of x.state x.inv) x.inst

-- that of the first of three, where each has one
abbrev pub first_of_three : Site → Result Value Cause
first_of_three x = atomics.first_of_three x.program x.state x.inv x.frame x.inst

-- what an id stands for, where it stands for a value
abbrev pub value_with : Site → ℕ → Option Value
value_with x id = value_of (accepted x) x.frame (depth_of x.state x.inv) id

-- a type that is there, and is no pointer type
abbrev pub is_data : Types → Option ℕ → Bool
is_data ts ty = option_map_or (λ (t : ℕ). not (is_pointer (form_of ts t))) ty false

-- that of an operand
abbrev pub is_data_at : Accepted → Inst → ℕ → Bool
is_data_at a d n = is_data a.types (type_at (known a) d n)

-- A value of the type of an operand: data has no pointer in it, and a pointer leads to what its type points to, in a variable of the type's
-- storage class.
abbrev pub IsShaped : Accepted → Inst → ℕ → Value → Type 0
IsShaped a d n v = (ty : ℕ) → type_at (known a) d n ≡ Some ty → HasShape a.types (if is_pointer (form_of a.types ty) then target_in a ty else no_roots) ty v

-- by the type of its variable a pointer leads to a block, and a member of the block is a runtime array
pub record LeadsToArray (m : Memory) (q : Reference) (member : ℕ) : Type 0 where
  pub type : ℕ
  pub named : reads (root_id q.root) m.targets ≡ Some type
  pub block : ℕ
  pub leads : reached_type m.types type q.path ≡ Some block
  pub array : is_array_at m.types (form_of m.types block) member ≡ true

-- what is due, or there is none: the fault F4; or memory ran out
abbrev pub Finds : {T : Type 0} → Option T → Result T (Fail Cause) → Type 0
Finds due (Ok x) = due ≡ Some x
Finds due (Err (Refused cause)) = (due ≡ None) × (cause ≡ NoValue)
Finds due (Err NoMemory) = ⊤

-- nothing is there: the fault F4; or memory ran out
abbrev pub IsMissing : {T : Type 0} → Option T → Fail Cause → Type 0
IsMissing due (Refused cause) = (due ≡ None) × (cause ≡ NoValue)
IsMissing due NoMemory = ⊤

-- something is there, or it is missing
abbrev pub Asks : {T U : Type 0} → Option T → Result U (Fail Cause) → Type 0
Asks due (Ok x) = IsSome due
Asks due (Err e) = IsMissing due e

-- ---- results

-- what a register takes has the instruction's type, and a pointer names a variable that is there
abbrev pub IsGain : Site → Gain → Value → Type 0
IsGain x Nothing v = ⊥
IsGain x Row v = IsResult (accepted x) x.inst v
IsGain x (Pointer b) v =
    HasShape (accepted x).types (target_in (accepted x) x.inst.ty) x.inst.ty (Ptr b.value) × IsRoot (accepted x) (frames_of x.state x.inv) (depth_of x.state x.inv) b.value.root
IsGain x (Handed c) v = ⊥

-- what the computation gives, or an operand has no value; or memory ran out
abbrev pub Computes : Site → Computation → Value → Result Gain (Fail Cause) → Type 0
Computes x c v (Ok gain) = (result_by (accepted x) x.inst (values x) c ≡ gained gain v) × IsGain x gain v
Computes x c v (Err (Refused cause)) = (result_by (accepted x) x.inst (values x) c ≡ None) × (cause ≡ NoValue)
Computes x c v (Err NoMemory) = ⊤
