-- How much an event weighs: at most so many marks and entries undo it.
use Rattle.std.specs.Prelude.{ℕ, ◌+◌, ◌==◌, ◌&&◌, not, if◌then◌else◌, Bool, false, length, Option, Some, None, Result, Ok, Err, slice_get}
use Rattle.std.specs.Option.{option_and_then, option_map_or}
use Rattle.spv_base.specs.declared.instructions.Inst.{Inst}
use Rattle.spv_base.specs.declared.values.Pointer.{Pointer}
use Rattle.spv_base.specs.declared.values.Value.{Value}
use Rattle.spv_index.specs.Definitions.{at}
use Rattle.spv_actions.specs.Below.spv_types.specs.Rows.{leaves}
use Rattle.spv_valid.specs.Acceptance.{Accepted}
use Rattle.spv_effects.specs.Lanes.{lane_of}
use Rattle.spv_frame.specs.Frames.{Held as Frame}
use Rattle.spv_actions.specs.Below.spv_operands.specs.Values.{operand_value}
use Rattle.spv_statuses.specs.declared.invocations.Status.{Status}
use Rattle.spv_statuses.specs.declared.invocations.Status.TheVariants.{Ready, Arrived, Passed, Finished}
use Rattle.spv_sites.specs.Effects.{Control, Effect, Next, Jump, Enter, Leave, Wait}
use Rattle.spv_sites.specs.Instructions.{effect_of}
use Rattle.spv_sites.specs.declared.causes.Cause.{Cause}
use Rattle.spv_state.specs.Events.{captures_before}
use Rattle.spv_state.specs.Program.{Program}
use Rattle.spv_state.specs.State.{State, depth_of, top_of}
use Rattle.spv_machine.specs.Step.{apply, go_on}

-- ---- the leaves of memory that are stored

abbrev pub leaves_in : Option (Pointer × Value) → ℕ
leaves_in None = 0
leaves_in (Some e) = length (leaves e.1)

-- two scalars that are both defined, and differ
abbrev pub differ : Value → Value → Bool
differ v u = ((lane_of v).defined && (lane_of u).defined) && not ((lane_of v).bits == (lane_of u).bits)

-- an operand of the instruction that an invocation has reached
abbrev pub operand_at : Program → State → ℕ → Inst → ℕ → Option Value
operand_at p s i d n = option_and_then (λ f. operand_value p.accepted f (depth_of s i) d n) (top_of s i)

-- An AtomicCompareExchange (230) stores nothing where the old scalar, which is its result, and the comparator, its operand 5, are defined and
-- differ (SPIR-V 1.6 section 3.42.18): the old scalar is put back.
abbrev pub puts_back : Program → State → ℕ → Inst → Effect → Bool
puts_back p s i d e = d.op == 230 && option_map_or (λ old. option_map_or (differ old) (operand_at p s i d 5) false) e.result false

abbrev pub leaves_stored : Program → State → ℕ → Inst → Effect → ℕ
leaves_stored p s i d e = if puts_back p s i d e then 0 else leaves_in e.store

-- ---- registers and debug events

-- a register that takes something
abbrev pub taking : Option Value → ℕ
taking None = 0
taking (Some v) = 1

-- The registers that are set where control goes, in frames that were there: those of the phis of a block, and that of a call, which takes
-- what the function gives. The parameters of a function are registers of a frame that wasn't there.
abbrev pub registers_set : Control → ℕ
registers_set Next = 0
registers_set (Jump block phis) = length phis
registers_set (Enter frame es) = 0
registers_set (Leave v) = taking v
registers_set Wait = 0

-- the debug instructions before the executable at which the top frame of an invocation stands
abbrev pub events_before : Accepted → State → ℕ → ℕ
events_before a s i = option_map_or (λ (f : Frame). length (captures_before a f.pc)) (top_of s i) 0

-- the debug events that are appended where control goes, to the frame that is the top one in the state to which it leads
abbrev pub events_appended : Accepted → ℕ → Control → State → ℕ
events_appended a i Next t = events_before a t i
events_appended a i (Jump block phis) t = events_before a t i
events_appended a i (Enter frame es) t = events_before a t i
events_appended a i (Leave v) t = events_before a t i
events_appended a i Wait t = 0

-- ---- an event

abbrev pub effect_weight : Program → State → ℕ → Inst → Effect → ℕ
effect_weight p s i d e =
    4 + leaves_stored p s i d e + taking e.result + registers_set e.control + events_appended p.accepted i e.control (apply p i d e s)

-- an event that has no effect, or faults
abbrev pub result_weight : Program → State → ℕ → Inst → Result Effect Cause → ℕ
result_weight p s i d (Ok e) = effect_weight p s i d e
result_weight p s i d (Err cause) = 4

abbrev pub inst_weight : Program → State → ℕ → Frame → Option Inst → ℕ
inst_weight p s i f None = 4
inst_weight p s i f (Some d) = result_weight p s i d (effect_of p s i f d)

abbrev pub frame_weight : Program → State → ℕ → Option Frame → ℕ
frame_weight p s i None = 4
frame_weight p s i (Some f) = inst_weight p s i f (at p.accepted.insts f.pc)

abbrev pub status_weight : Program → State → ℕ → Option Status → ℕ
status_weight p s i (Some Ready) = frame_weight p s i (top_of s i)
status_weight p s i (Some Passed) = 4 + events_before p.accepted (go_on p.accepted i s) i
status_weight p s i (Some (Arrived word)) = 4
status_weight p s i (Some Finished) = 4
status_weight p s i None = 4

-- of the next event of an invocation
unfoldable pub weight_of : Program → State → ℕ → ℕ
weight_of p s i = status_weight p s i (slice_get s.statuses.list i)
