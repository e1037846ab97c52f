-- The debug events that a run passes: DebugDeclare and DebugValue of NonSemantic.Shader.DebugInfo.100, revision 1.00. Such an instruction has
-- no meaning at run time: it is passed within the event that comes to the next executable of its block (SPIR-V 1.6 section 3.42.4, OpExtInst).
-- Which of them are well-formed isn't asked here.
use Rattle.std.specs.Prelude.{◌≡◌, ℕ, ◌&&◌, ◌||◌, nat_lt, not, if◌then◌else◌, Bool, true, false, List, [], ◌∷◌, ◌++◌, map, length, unwrap_or, Some, Vec}
use Rattle.std.specs.Option.{option_and_then, option_map_or}
use Rattle.std.specs.declared.alloc.Global.{Global}
use Rattle.spv_base.specs.Entries.{reads}
use Rattle.spv_base.specs.declared.instructions.Inst.{Inst}
use Rattle.spv_base.specs.declared.values.PassedEvent.{PassedEvent}
use Rattle.spv_base.specs.declared.values.Value.{Value}
use Rattle.spv_base.specs.Options.{holds}
use Rattle.spv_index.specs.Classes.{is_label}
use Rattle.spv_index.specs.DebugSet.{set_number}
use Rattle.spv_index.specs.Definitions.{at, result_type}
use Rattle.spv_index.specs.Operands.{id_operand}
use Rattle.spv_index.specs.Positions.{Stand, stands_of}
use Rattle.spv_frame.specs.Frames.{Held as Frame}
use Rattle.spv_plans.specs.Members.{is_stop}
use Rattle.spv_plans.specs.Registered.{IsOfFunction}
use Rattle.spv_operands.specs.Shapes.{AreShaped, target_in}
use Rattle.spv_operands.specs.Values.{value_of}
use Rattle.spv_types.specs.Queries.{is_pointer}
use Rattle.spv_types.specs.Rows.{no_roots}
use Rattle.spv_types.specs.Shapes.{HasShape}
use Rattle.spv_types.specs.Types.{form_of}
use Rattle.spv_valid.specs.Acceptance.{Accepted}
use Rattle.spv_state.specs.State.{State, depth_of, on_frame, top_of}
use Rattle.spv_state.specs.declared.captures.Capture.{Capture}

-- ---- which instructions they are

-- DebugDeclare (28) or DebugValue (29) with at least two operands behind set and number: a local variable, and the id whose value is captured
abbrev pub captures : List Inst → Inst → Bool
captures insts i = (holds 28 (set_number insts i) || holds 29 (set_number insts i)) && nat_lt 3 (length i.operands)

abbrev pub capture_in : List Inst → Inst → List Capture
capture_in insts i = if captures insts i then record { word = i.word; id = id_operand i 3 } ∷ [] else []

-- ---- where they are passed

-- those behind an instruction, where some stand before it: none where a run stops at it, and none behind the label of a block
abbrev pub behind : List Inst → Stand → List Capture → List Capture
behind insts s before = if is_stop s || is_label s.class then [] else before ++ capture_in insts s.inst

-- those since the last executable, or since the label of the block, among instructions of which the last one stands first
abbrev pub since : List Inst → List Stand → List Capture
since insts [] = []
since insts (s ∷ ss) = behind insts s (since insts ss)

abbrev pub are_none : List Capture → Bool
are_none [] = true
are_none (c ∷ cs) = false

-- an executable with those that are passed before it, where there are some
abbrev pub entry : Stand → List Capture → List (ℕ × List Capture)
entry s cs = if is_stop s && not (are_none cs) then (s.inst.word, cs) ∷ [] else []

-- the same of several, where the instructions before them are known, the last one first
abbrev pub entries : List Inst → List Stand → List Stand → List (ℕ × List Capture)
entries insts before [] = []
entries insts before (s ∷ ss) = entry s (since insts before) ++ entries insts (s ∷ before) ss

-- the debug instructions that a frame passes as it comes to the executable at a word, in their order
unfoldable pub captures_before : Accepted → ℕ → List Capture
captures_before a pc = unwrap_or (reads pc (entries a.insts [] (stands_of a.insts))) []

-- ---- what they capture

-- The value of the id in a frame at a depth as it is: of a constant, an OpUndef outside functions, a variable's pointer, or what a register holds;
-- none where the id has none there.
abbrev pub captured : Accepted → Frame → ℕ → Capture → PassedEvent
captured a f depth c = record { word = c.word; value = option_and_then (value_of a f depth) c.id }

-- the events that are due in a frame at a depth which has come to its pc
abbrev pub due : Accepted → ℕ → Frame → List PassedEvent
due a depth f = map (captured a f depth) (captures_before a f.pc)

-- with them behind those that were passed before
abbrev pub passed : Accepted → ℕ → Frame → Frame
passed a depth f = record f { events = f.events ++ due a depth f }

-- ---- what they have captured

-- An event that was passed is one of a debug instruction of the module. The value that it captured has the shape of the type of the
-- instruction's id: data has no pointer in it, and a pointer leads, along its path, to what its type points to, in a variable of the type's
-- storage class.
pub record IsShapedEvent (a : Accepted) (e : PassedEvent) : Type 0 where
  pub inst : Inst
  pub here : at a.insts e.word ≡ Some inst
  pub debug : captures a.insts inst ≡ true
  pub shaped : (id ty : ℕ) (v : Value) → id_operand inst 3 ≡ Some id → result_type a.insts id ≡ Some ty → e.value ≡ Some v
      → HasShape a.types (if is_pointer (form_of a.types ty) then target_in a ty else no_roots) ty v

-- ---- in a state

-- the events that are due in the top frame of an invocation, which has come to its pc
abbrev pub due_at : Accepted → State → ℕ → List PassedEvent
due_at a s i = option_map_or (due a (depth_of s i)) (top_of s i) []

-- the top frame of an invocation has come to its pc
abbrev pub pass : Accepted → ℕ → State → State
pass a i s = on_frame i (passed a (depth_of s i)) s

-- a frame of one of the module's functions, whose registers hold values of their types
pub record IsReadable (a : Accepted) (f : Frame) : Type 0 where
  pub function : IsOfFunction a f.plan
  pub shaped : AreShaped a f

-- the top frame of an invocation, where it has one, is such a frame
abbrev pub IsReadableAt : Accepted → State → ℕ → Type 0
IsReadableAt a s i = (f : Frame) → top_of s i ≡ Some f → IsReadable a f

-- ---- as the code keeps them

abbrev pub listed : ℕ × Vec Capture Global → ℕ × List Capture
listed e = (e.0, e.1.items)

-- those under the word of an executable
abbrev pub under : List (ℕ × Vec Capture Global) → ℕ → List Capture
under entries pc = option_map_or (λ v. v.items) (reads pc entries) []
