-- What the next event of an invocation touches: the leaves of shared variables that it reads and those that it writes.
use Rattle.std.specs.Prelude.{◌≡◌, ℕ, ◌&&◌, not, Bool, true, false, List, [], Option, Some, None, Result, Ok, Err, slice_get}
use Rattle.std.specs.Option.{is_some, option_and_then, option_map, option_map_or}
use Rattle.spv_base.specs.declared.instructions.Inst.{Inst}
use Rattle.spv_base.specs.declared.values.Pointer.{Pointer}
use Rattle.spv_base.specs.declared.values.Value.{Value, out-Value}
use Rattle.spv_index.specs.Definitions.{at}
use Rattle.spv_types.specs.Shapes.{pointer_in}
use Rattle.spv_frame.specs.Frames.{Held as Frame}
use Rattle.spv_operands.specs.Values.{operand_value}
use Rattle.spv_statuses.specs.declared.invocations.Status.{Status}
use Rattle.spv_statuses.specs.declared.invocations.Status.TheVariants.{Ready, Arrived, Passed, Finished}
use Rattle.spv_state.specs.Actions.{action_of}
use Rattle.spv_state.specs.Program.{Program}
use Rattle.spv_state.specs.State.{State, depth_of, pop_frame, top_of}
use Rattle.spv_state.specs.declared.actions.Action.{Action}
use Rattle.spv_state.specs.declared.actions.Action.TheVariants.{Load, CopyMemory, Atomic}
use Rattle.spv_state.specs.declared.actions.AtomicOp.{AtomicOp}
use Rattle.spv_state.specs.declared.actions.AtomicOp.TheVariants as atomic
use Rattle.spv_sites.specs.Effects.{Control, Effect, Leave, Wait}
use Rattle.spv_sites.specs.Instructions.{effect_of}
use Rattle.spv_sites.specs.declared.causes.Cause.{Cause}
use Rattle.spv_touch.specs.Ranges.{leaves_at}
use Rattle.spv_order.specs.declared.events.Event.{Event}
use Rattle.spv_order.specs.declared.events.Leaves.{Leaves}

-- ---- the event that is due

-- the instruction that an invocation does next, in its top frame, and its effect
pub record Due : Type 0 where
  pub frame : Frame
  pub inst : Inst
  pub effect : Effect

-- there is none where it faults
abbrev pub due_by : Frame → Inst → Result Effect Cause → Option Due
due_by f d (Ok e) = Some (record { frame = f; inst = d; effect = e })
due_by f d (Err cause) = None

abbrev pub due_in : Program → State → ℕ → Frame → Option Due
due_in p s i f = option_and_then (λ d. due_by f d (effect_of p s i f d)) (at p.accepted.insts f.pc)

-- nor where the invocation waits at a barrier, leaves one or is finished
abbrev pub due_as : Program → State → ℕ → Option Status → Option Due
due_as p s i (Some Ready) = option_and_then (due_in p s i) (top_of s i)
due_as p s i (Some (Arrived word)) = None
due_as p s i (Some Passed) = None
due_as p s i (Some Finished) = None
due_as p s i None = None

unfoldable pub due_of : Program → State → ℕ → Option Due
due_of p s i = due_as p s i (slice_get s.statuses.list i)

-- ---- what is read

-- every atomic but OpAtomicStore reads through its first operand, also one that stores nothing new
abbrev pub atomic_reads : AtomicOp → Option ℕ
atomic_reads atomic.Store = None
atomic_reads _ = Some 0

-- The operand, by its number, through which an instruction reads memory: OpLoad (pointer), OpCopyMemory (target, source). The length of a runtime
-- array (OpArrayLength) is no leaf, and a store asks for lengths alone.
abbrev pub read_operand : Action → Option ℕ
read_operand Load = Some 0
read_operand CopyMemory = Some 1
read_operand (Atomic op) = atomic_reads op
read_operand _ = None

abbrev pub read_pointer : Program → State → ℕ → Frame → Inst → Option Pointer
read_pointer p s i f d =
    option_and_then (λ n. option_and_then (λ v. pointer_in (out-Value v)) (operand_value p.accepted f (depth_of s i) d n)) (read_operand (action_of d))

-- ---- what is touched

pub record Touching : Type 0 where
  pub reads : List Leaves
  pub writes : List Leaves

abbrev pub nothing : Touching
nothing = record { reads = []; writes = [] }

-- the leaves below a pointer, where there is one
abbrev pub leaves_below : State → Option Pointer → List Leaves
leaves_below s q = option_map_or (leaves_at s.memory) q []

abbrev pub touched_by : Program → State → ℕ → Due → Touching
touched_by p s i e =
    record { reads = leaves_below s (read_pointer p s i e.frame e.inst); writes = leaves_below s (option_map (λ (x : Pointer × Value). x.0) e.effect.store) }

unfoldable pub touched_of : Program → State → ℕ → Touching
touched_of p s i = option_map_or (touched_by p s i) (due_of p s i) nothing

-- ---- which events arrive

-- an invocation arrives at a barrier, or it returns from the entry point, so that no frame is left, where finished invocations count as arrived
abbrev pub arrives_by : Program → State → ℕ → Control → Bool
arrives_by p s i Wait = true
arrives_by p s i (Leave v) = p.setup.finished_count && not (is_some (top_of (pop_frame i s) i))
arrives_by p s i _ = false

unfoldable pub arrives_of : Program → State → ℕ → Bool
arrives_of p s i = option_map_or (λ (e : Due). arrives_by p s i e.effect.control) (due_of p s i) false

-- ---- the event, as far as its order matters

pub record IsEvent (p : Program) (s : State) (i : ℕ) (e : Event) : Type 0 where
  pub invocation : e.invocation ≡ i
  pub arrives : e.arrives ≡ arrives_of p s i
  pub reads : e.reads.items ≡ (touched_of p s i).reads
  pub writes : e.writes.items ≡ (touched_of p s i).writes
