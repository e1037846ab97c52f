-- One step of an invocation.
use Rattle.std.specs.Prelude.{ℕ, ◌==◌, ◌||◌, if◌then◌else◌, Bool, false, List, unwrap_or, Option, Some, None, Result, Ok, Err, slice_get}
use Rattle.std.specs.Option.{option_and_then, option_map_or}
use Rattle.spv_base.specs.Entries.{reads}
use Rattle.spv_base.specs.declared.happenings.Fault.{Fault}
use Rattle.spv_base.specs.declared.happenings.Happening.{Happening}
use Rattle.spv_base.specs.declared.happenings.Kind.TheVariants.{Idle, Plain, Write, Arrive, Opened}
use Rattle.spv_base.specs.declared.instructions.Inst.{Inst}
use Rattle.spv_base.specs.declared.values.Pointer.{Pointer}
use Rattle.spv_base.specs.declared.values.Root.{Root}
use Rattle.spv_base.specs.declared.values.Root.TheVariants.{Shared, Private, Local}
use Rattle.spv_base.specs.declared.values.Value.{Value}
use Rattle.spv_index.specs.Definitions.{at}
use Rattle.spv_valid.specs.Acceptance.{Accepted}
use Rattle.spv_actions.specs.Below.spv_mem.specs.Memory.{stored}
use Rattle.spv_frame.specs.Frames.{Held as Frame}
use Rattle.spv_actions.specs.Below.spv_operands.specs.Values.{storage_class}
use Rattle.spv_statuses.specs.Group.{first_waiting, opens_at}
use Rattle.spv_statuses.specs.declared.invocations.Status.{Status}
use Rattle.spv_statuses.specs.declared.invocations.Status.TheVariants.{Ready, Arrived, Passed, Finished}
use Rattle.spv_sites.specs.Effects.{Control, Effect, Next, Jump, Enter, Leave, Wait, code_of}
use Rattle.spv_sites.specs.Instructions.{effect_of}
use Rattle.spv_state.specs.Events.{pass}
use Rattle.spv_state.specs.Program.{Program}
use Rattle.spv_state.specs.State.{State, on_frame, open_barrier, pop_frame, push_frame, put_store, set_status, top_of, with_pc, with_register, with_registers}
use Rattle.spv_sites.specs.declared.causes.Cause.{Cause}

-- ---- an effect, done

-- The executable behind the one at a word, in its block. There is one: where a run goes on the instruction ends no block
-- (steps_find_what_they_need: next).
abbrev pub next_of : Accepted → ℕ → ℕ
next_of a pc = unwrap_or (option_and_then (λ n. n) (reads pc a.flow.nexts)) 0

abbrev pub put_result : ℕ → ℕ → Option Value → State → State
put_result i id None s = s
put_result i id (Some v) s = on_frame i (with_register id v) s

-- the store and the result of an effect
abbrev pub put : ℕ → ℕ → Effect → State → State
put i id e s = put_result i id e.result (put_store i e.store s)

-- to the next executable
abbrev pub to_next : Accepted → ℕ → State → State
to_next a i s = on_frame i (λ (f : Frame). with_pc (next_of a f.pc) f) s

-- on to it, past the debug instructions before it
abbrev pub go_on : Accepted → ℕ → State → State
go_on a i s = pass a i (to_next a i s)

-- The first executable of the block with a label. Each block to which a branch of an accepted module may go has one (targets_are_entered of
-- spv_cfg).
abbrev pub first_of : Accepted → ℕ → ℕ
first_of a label = unwrap_or (reads label a.flow.blocks) 0

-- to a block, whose phis take their values at once
abbrev pub to_block : Accepted → ℕ → ℕ → List (ℕ × Value) → State → State
to_block a i block phis s = on_frame i (λ (f : Frame). with_pc (first_of a block) (with_registers phis f)) s

-- the same, past the debug instructions before its first executable
abbrev pub jump : Accepted → ℕ → ℕ → List (ℕ × Value) → State → State
jump a i block phis s = pass a i (to_block a i block phis s)

-- The id of the instruction at a word. Where a frame is left, the one below stands at an OpFunctionCall (steps_find_what_they_need: caller).
abbrev pub id_at : Accepted → ℕ → ℕ
id_at a word = option_map_or (λ (d : Inst). d.id) (at a.insts word) 0

-- ---- barriers

-- the barrier at a word opens where all invocations wait there, or all that aren't finished where the setup counts finished ones as arrived
abbrev pub opens : Program → ℕ → State → Bool
opens p word s = opens_at p.setup.finished_count word s.statuses.list

-- those that waited are Passed then
abbrev pub opened : Program → ℕ → State → State
opened p word s = if opens p word s then open_barrier s else s

-- an arrival at the barrier at a word, which may open it
abbrev pub arrived : ℕ → ℕ → State → State
arrived i word s = set_status i (Arrived word) s

abbrev pub arrive : Program → ℕ → ℕ → State → State
arrive p i word s = opened p word (arrived i word s)

-- The entry point returned, and the invocation is Finished.
abbrev pub finished : ℕ → State → State
finished i s = set_status i Finished s

-- the barrier at which some invocation waits opens, or doesn't; if none waits there is no such barrier
abbrev pub opened_at : Program → Option ℕ → State → State
opened_at p None s = s
opened_at p (Some word) s = opened p word s

-- Where finished invocations count as arrived, this may open a barrier too: one at which all others wait, and so the first that waits at all.
abbrev pub finish : Program → ℕ → State → State
finish p i s = if p.setup.finished_count then opened_at p (first_waiting (finished i s).statuses.list) (finished i s) else finished i s

-- ---- returns

-- Where a function was left: the call takes what it gave, and the caller moves past the call; where no frame is left, the entry point
-- returned.
abbrev pub resume : Program → ℕ → Option Value → State → Option Frame → State
resume p i v s None = finish p i s
resume p i v s (Some f) = go_on p.accepted i (put_result i (id_at p.accepted f.pc) v s)

abbrev pub leave : Program → ℕ → Option Value → State → State
leave p i v s = resume p i v (pop_frame i s) (top_of (pop_frame i s) i)

-- ---- all of an effect

abbrev pub go : Program → ℕ → ℕ → Control → State → State
go p i word Next s = go_on p.accepted i s
go p i word (Jump block phis) s = jump p.accepted i block phis s
go p i word (Enter frame es) s = push_frame i frame es s
go p i word (Leave v) s = leave p i v s
go p i word Wait s = arrive p i word s

abbrev pub apply : Program → ℕ → Inst → Effect → State → State
apply p i d e s = go p i d.word e.control (put i d.id e s)

-- ---- a step

-- what one event of an invocation is
pub data Outcome : Type 0 where
  Idles : Outcome
  Moves : (happening : Happening) (next : State) → Outcome
  Faults : (fault : Fault) → Outcome

abbrev pub plain : ℕ → ℕ → Happening
plain i word = record { inv = i; kind = Plain; word = word; root = 0; line = 0 }

-- an event of an invocation that waits or is finished
abbrev pub idle : ℕ → Happening
idle i = record { inv = i; kind = Idle; word = 0; root = 0; line = 0 }

-- a variable that all invocations see and write: of the class StorageBuffer (12) or Workgroup (4)
abbrev pub is_written : Accepted → ℕ → Bool
is_written a id = option_map_or (λ class. class == 12 || class == 4) (storage_class a.insts id) false

abbrev pub written : Accepted → ℕ → ℕ → Root → Happening
written a i word (Shared id) = if is_written a id then record { inv = i; kind = Write; word = word; root = id; line = 0 } else plain i word
written a i word (Private id) = plain i word
written a i word (Local depth id) = plain i word

-- an arrival at the barrier at a word, which opens then, or doesn't
abbrev pub arrival_with : ℕ → ℕ → Bool → Happening
arrival_with i word opened = record { inv = i; kind = if opened then Opened else Arrive; word = word; root = 0; line = 0 }

-- in the state before it
abbrev pub arrival : Program → ℕ → ℕ → State → Happening
arrival p i word s = arrival_with i word (opens p word (arrived i word s))

-- the event of a store at a word
abbrev pub stored_at : Accepted → ℕ → ℕ → Option (Pointer × Value) → Happening
stored_at a i word None = plain i word
stored_at a i word (Some e) = written a i word e.0.root

-- The event of an effect at a word, in the state before it, by where control goes: where it goes on, that of its store. A return that opens a
-- barrier is plain, as others are.
abbrev pub by_control : Program → ℕ → ℕ → State → Happening → Control → Happening
by_control p i word s stored Next = stored
by_control p i word s stored (Jump block phis) = plain i word
by_control p i word s stored (Enter frame es) = plain i word
by_control p i word s stored (Leave v) = plain i word
by_control p i word s stored Wait = arrival p i word s

abbrev pub happening_of : Program → State → ℕ → ℕ → Effect → Happening
happening_of p s i word e = by_control p i word s (stored_at p.accepted i word e.store) e.control

-- a fault changes nothing
abbrev pub outcome : Program → State → ℕ → Inst → Result Effect Cause → Outcome
outcome p s i d (Ok e) = Moves (happening_of p s i d.word e) (apply p i d e s)
outcome p s i d (Err cause) = Faults (record { code = code_of cause; inv = i; word = d.word })

-- A Ready invocation does the effect of the instruction at which its top frame stands. It has a top frame, and this stands at an instruction
-- (steps_find_what_they_need: frame, inst).
abbrev pub at_inst : Program → State → ℕ → Frame → Option Inst → Outcome
at_inst p s i f None = Idles
at_inst p s i f (Some d) = outcome p s i d (effect_of p s i f d)

abbrev pub at_frame : Program → State → ℕ → Option Frame → Outcome
at_frame p s i None = Idles
at_frame p s i (Some f) = at_inst p s i f (at p.accepted.insts f.pc)

-- A Passed invocation moves past the barrier and is Ready. It has a top frame (steps_find_what_they_need: frame).
abbrev pub past_frame : Program → State → ℕ → Option Frame → Outcome
past_frame p s i None = Idles
past_frame p s i (Some f) = Moves (plain i f.pc) (set_status i Ready (go_on p.accepted i s))

-- each invocation has a status; a number that is none's idles
abbrev pub by_status : Program → State → ℕ → Option Status → Outcome
by_status p s i (Some Ready) = at_frame p s i (top_of s i)
by_status p s i (Some Passed) = past_frame p s i (top_of s i)
by_status p s i (Some (Arrived word)) = Idles
by_status p s i (Some Finished) = Idles
by_status p s i None = Idles

unfoldable pub step_of : Program → State → ℕ → Outcome
step_of p s i = by_status p s i (slice_get s.statuses.list i)

-- the fault, where there is one
abbrev pub fault_in : Outcome → Option Fault
fault_in Idles = None
fault_in (Moves h s) = None
fault_in (Faults f) = Some f
