-- The state of a workgroup: its memory, and per invocation a status and the calls that it is in.
use Rattle.std.specs.Prelude.{ℕ, ◌-◌, ◌++◌, List, [], ◌∷◌, length, take, Option, None, slice_get, slice_set}
use Rattle.std.specs.Option.{option_map_or}
use Rattle.spv_base.specs.Entries.{change, writes}
use Rattle.spv_base.specs.Variables.{Roots}
use Rattle.spv_base.specs.declared.values.PassedEvent.{PassedEvent}
use Rattle.spv_base.specs.declared.values.Pointer.{Pointer}
use Rattle.spv_base.specs.declared.values.Value.{Value, out-Value}
use Rattle.spv_base.specs.declared.values.Value.TheOpen.{Value-F}
use Rattle.std.specs.Prelude.{Some}
use Rattle.spv_frame.specs.Frames.{Held as Frame}
use Rattle.spv_frame.specs.Registers.{Planned}
use Rattle.spv_frame.specs.Stacks.{Stacked, on_top, top}
use Rattle.spv_mem.specs.Memory.{Held as Memory, Levels, entered, stored}
use Rattle.spv_statuses.specs.Group.{Held as Statuses, closed, opened}
use Rattle.spv_statuses.specs.declared.invocations.Status.{Status}

pub record State : Type 0 where
  pub plans : List Planned  -- of the module's functions
  pub memory : Memory
  pub stacks : List Stacked  -- per invocation
  pub statuses : Statuses  -- per invocation

-- ---- reading

abbrev pub frames_of : State → ℕ → List Frame
frames_of s i = option_map_or (λ (k : Stacked). k.frames) (slice_get s.stacks i) []

-- the top frame of an invocation; none where it is finished
abbrev pub top_of : State → ℕ → Option Frame
top_of s i = top (frames_of s i)

-- the depth of the top frame; the entry point's is 0
abbrev pub depth_of : State → ℕ → ℕ
depth_of s i = length (frames_of s i) - 1

-- ---- changes

abbrev pub on_memory : (Memory → Memory) → State → State
on_memory g s = record s { memory = g s.memory }

-- another part where a pointer of an invocation leads
abbrev pub put_store : ℕ → Option (Pointer × Value) → State → State
put_store i None s = s
put_store i (Some e) s = on_memory (stored i e.0 e.1) s

-- a change of the top frame of an invocation
abbrev pub on_frames : (Frame → Frame) → Stacked → Stacked
on_frames g k = record k { frames = on_top g k.frames }

abbrev pub on_frame : ℕ → (Frame → Frame) → State → State
on_frame i g s = record s { stacks = change i (on_frames g) s.stacks }

abbrev pub with_pc : ℕ → Frame → Frame
with_pc pc f = record f { pc = pc }

-- a register holds a value or a pointer
abbrev pub with_level : ℕ → Value → Value-F Value → Frame → Frame
with_level id v (Value-F.Scalar c) f = record f { values = writes id (Some v) f.values }
with_level id v (Value-F.List vs) f = record f { values = writes id (Some v) f.values }
with_level id v (Value-F.Ptr q) f = record f { pointers = writes id (Some q) f.pointers }

abbrev pub with_register : ℕ → Value → Frame → Frame
with_register id v f = with_level id v (out-Value v) f

abbrev pub set_status : ℕ → Status → State → State
set_status i status s = record s { statuses = record s.statuses { list = slice_set s.statuses.list i status } }

abbrev pub without_last : {A : Type 0} → List A → List A
without_last xs = take (length xs - 1) xs

-- values in several registers
abbrev pub with_registers : List (ℕ × Value) → Frame → Frame
with_registers [] f = f
with_registers (r ∷ rs) f = with_registers rs (with_register r.0 r.1 f)

-- the variables of the top frame are gone
abbrev pub without_locals : Levels → Levels
without_locals l = record l { list = without_last l.list }

abbrev pub without_top : Stacked → Stacked
without_top k = record k { frames = without_last k.frames }

-- the top frame of an invocation goes, with its variables
abbrev pub pop_frame : ℕ → State → State
pop_frame i s = record s { memory = record s.memory { locals = change i without_locals s.memory.locals }; stacks = change i without_top s.stacks }

-- a frame more, with its variables: it is the top one then
abbrev pub with_top : Frame → Stacked → Stacked
with_top f k = record k { frames = k.frames ++ f ∷ [] }

abbrev pub push_frame : ℕ → Frame → Roots → State → State
push_frame i f es s = record s { memory = entered i es s.memory; stacks = change i (with_top f) s.stacks }

-- a barrier opens: every invocation that waits is Passed
abbrev pub open_barrier : State → State
open_barrier s = record s { statuses = record s.statuses { list = opened s.statuses.list } }

-- ---- inverses, where the change itself isn't one

-- a frame passes a debug event
abbrev pub append_event : PassedEvent → Frame → Frame
append_event e f = record f { events = f.events ++ e ∷ [] }

-- a frame hasn't passed its last debug event
abbrev pub drop_event : Frame → Frame
drop_event f = record f { events = without_last f.events }

-- a barrier closes again: every invocation that is Passed waits there
abbrev pub close_barrier : ℕ → State → State
close_barrier word s = record s { statuses = record s.statuses { list = closed word s.statuses.list } }
