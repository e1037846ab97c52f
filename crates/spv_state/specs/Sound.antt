-- Sound states: what holds at every position of a run.
use Rattle.std.specs.Prelude.{◌≡◌, ◌↔◌, ℕ, suc, true, [], length, map, Option, Some, slice_get, ⊤}
use Rattle.std.specs.List.{All, AllZip, Contains}
use Rattle.spv_base.specs.Variables.{Roots}
use Rattle.spv_base.specs.declared.instructions.Inst.{Inst}
use Rattle.spv_base.specs.declared.values.Pointer.{Pointer}
use Rattle.spv_base.specs.declared.values.Value.{Value}
use Rattle.spv_index.specs.Definitions.{at}
use Rattle.spv_index.specs.Operands.{id_operand}
use Rattle.spv_index.specs.Positions.{Stand}
use Rattle.spv_valid.specs.Acceptance.{Accepted}
use Rattle.spv_mem.specs.Memory.{IsMemory, Levels}
use Rattle.spv_initial.specs.Start.{variables}
use Rattle.spv_initial.specs.Variables.{targets_of}
use Rattle.spv_frame.specs.Frames.{Held as Frame}
use Rattle.spv_frame.specs.Registers.{ids}
use Rattle.spv_frame.specs.Stacks.{Stacked, top}
use Rattle.spv_plans.specs.Members.{is_stop, members}
use Rattle.spv_plans.specs.Plans.{plan_of, plans_in}
use Rattle.spv_operands.specs.Shapes.{AreShaped}
use Rattle.spv_statuses.specs.declared.invocations.Status.{Status}
use Rattle.spv_statuses.specs.declared.invocations.Status.TheVariants.{Ready, Arrived, Passed, Finished}
use Rattle.spv_state.specs.Events.{IsShapedEvent}
use Rattle.spv_state.specs.Program.{Program, words_of}
use Rattle.spv_state.specs.State.{State}
use Rattle.spv_state.specs.Roots.{IsRooted, ids_in, local_ids, own_ids, shared_ids}

-- ---- frames

-- an executable of a function begins at a word
pub record StandsIn (a : Accepted) (function word : ℕ) : Type 0 where
  pub stand : Stand
  pub among : Contains (members a.insts function) stand
  pub here : stand.inst.word ≡ word
  pub stops : is_stop stand ≡ true

-- a frame has a place for each register of its plan
pub record HasPlaces (f : Frame) : Type 0 where
  pub values : map (λ (e : ℕ × Option Value). e.0) f.values ≡ ids f.plan.values
  pub pointers : map (λ (e : ℕ × Option Pointer). e.0) f.pointers ≡ f.plan.pointers

-- A frame has the registers of its function, each with a value of the shape of its type if it has one, and stands at an executable of the
-- function. The debug events that it has passed have values of the shapes of their types.
pub record IsSoundFrame (a : Accepted) (f : Frame) : Type 0 where
  pub plan : f.plan ≡ plan_of a f.plan.function
  pub places : HasPlaces f
  pub stands : StandsIn a f.plan.function f.pc
  pub shaped : AreShaped a f
  pub captured : All (IsShapedEvent a) f.events

-- a frame has exactly the variables of its function
abbrev pub HasVariables : Accepted → Frame → Roots → Type 0
HasVariables a f es = ids_in es ≡ local_ids a f.plan.function

-- ---- invocations

-- an OpFunctionCall (57) of a function stands at a word
abbrev pub IsCallOf : Accepted → ℕ → ℕ → Type 0
IsCallOf a word function = (d : Inst) × (at a.insts word ≡ Some d) × (d.op ≡ 57) × (id_operand d 0 ≡ Some function)

-- an OpControlBarrier (224) stands at a word
abbrev pub IsBarrier : Accepted → ℕ → Type 0
IsBarrier a word = (d : Inst) × (at a.insts word ≡ Some d) × (d.op ≡ 224)

-- an invocation that waits at a barrier, or has passed it, stands there
abbrev pub StandsAs : Accepted → Status → Frame → Type 0
StandsAs a Ready f = ⊤
StandsAs a (Arrived word) f = (f.pc ≡ word) × IsBarrier a word
StandsAs a Passed f = IsBarrier a f.pc
StandsAs a Finished f = ⊤

pub record IsSoundStack (a : Accepted) (t : Status) (k : Stacked) (l : Levels) : Type 0 where
  pub room : k.room ≡ a.depth
  pub levels : l.room ≡ a.depth
  -- it is Finished exactly where it has no frames
  pub finished : (t ≡ Finished) ↔ (k.frames ≡ [])
  pub frames : (depth : ℕ) (f : Frame) → slice_get k.frames depth ≡ Some f → IsSoundFrame a f
  pub variables : AllZip (HasVariables a) k.frames l.list
  -- its first frame is one of the entry function, and a frame below another stands at the call of the other's function
  pub first : (f : Frame) → slice_get k.frames 0 ≡ Some f → f.plan.function ≡ a.entry
  pub calls : (depth : ℕ) (f g : Frame) → slice_get k.frames depth ≡ Some f → slice_get k.frames (suc depth) ≡ Some g → IsCallOf a f.pc g.plan.function
  pub waits : (f : Frame) → top k.frames ≡ Some f → StandsAs a t f
  -- a pointer that a register holds, or a debug event has captured, names a variable that is there
  pub rooted : (depth : ℕ) (f : Frame) → slice_get k.frames depth ≡ Some f → IsRooted a k.frames depth f

-- ---- states

-- the plans and the variables are those of the module
pub record IsSound (p : Program) (s : State) : Type 0 where
  pub plans : s.plans ≡ plans_in p.accepted
  pub types : s.memory.types ≡ p.accepted.types
  pub targets : s.memory.targets ≡ targets_of (variables p.accepted)
  -- each variable has a value of the shape of its type
  pub memory : ∥ IsMemory s.memory ∥₁
  pub words : s.statuses.words ≡ words_of p.accepted
  pub stacks : length s.stacks ≡ length s.statuses.list
  pub levels : length s.memory.locals ≡ length s.statuses.list
  pub privates : length s.memory.privates ≡ length s.statuses.list
  -- the variables that all invocations share, and those that each has for itself, are exactly the module's
  pub shared : ids_in s.memory.shared ≡ shared_ids p.accepted
  pub own : (i : ℕ) (es : Roots) → slice_get s.memory.privates i ≡ Some es → ids_in es ≡ own_ids p.accepted
  pub each : (i : ℕ) (t : Status) (k : Stacked) (l : Levels) → slice_get s.statuses.list i ≡ Some t → slice_get s.stacks i ≡ Some k
      → slice_get s.memory.locals i ≡ Some l → IsSoundStack p.accepted t k l
