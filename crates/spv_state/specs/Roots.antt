-- The variables that are there at each position of a run (SPIR-V 1.6 section 3.7), and pointers of frames that name one of them.
use Rattle.std.specs.Prelude.{◌≡◌, ℕ, ◌==◌, ◌||◌, ◌≤◌, Bool, List, [], filter, map, Option, Some, slice_get}
use Rattle.std.specs.List.{All, Contains}
use Rattle.std.specs.Option.{option_and_then, option_map_or}
use Rattle.spv_base.specs.Entries.{reads}
use Rattle.spv_base.specs.Parts.{part_at}
use Rattle.spv_base.specs.Variables.{Roots}
use Rattle.spv_base.specs.declared.values.PassedEvent.{PassedEvent}
use Rattle.spv_base.specs.declared.values.Pointer.{Pointer}
use Rattle.spv_base.specs.declared.values.Root.{Root}
use Rattle.spv_base.specs.declared.values.Root.TheVariants.{Shared, Private, Local}
use Rattle.spv_base.specs.declared.values.Value.{Value}
use Rattle.spv_valid.specs.Acceptance.{Accepted}
use Rattle.spv_initial.specs.Start.{variables}
use Rattle.spv_initial.specs.declared.variables.Declared.{Declared}
use Rattle.spv_mem.specs.Memory.{Held as Memory, load_of, root_value}
use Rattle.spv_frame.specs.Frames.{Held as Frame}
use Rattle.spv_operands.specs.Operands.{pointer_of}
use Rattle.spv_operands.specs.Values.{is_own}
use Rattle.spv_state.specs.Start.{frame_roots}

-- ---- variables

-- all invocations share the variables of the classes Uniform (2), StorageBuffer (12), PushConstant (9) and Workgroup (4)
abbrev pub is_shared : ℕ → Bool
is_shared class = (class == 2 || class == 12) || (class == 9 || class == 4)

-- the ids of the module's variables whose class passes a test, in the order of the module
abbrev pub ids_with : (ℕ → Bool) → Accepted → List ℕ
ids_with test a = map (λ (d : Declared). d.id) (filter (λ (d : Declared). test d.class) (variables a))

abbrev pub shared_ids : Accepted → List ℕ
shared_ids a = ids_with is_shared a

-- each invocation has the variables of the classes Input (1) and Private (6) for itself
abbrev pub own_ids : Accepted → List ℕ
own_ids a = ids_with is_own a

-- the ids of some variables that are there
abbrev pub ids_in : Roots → List ℕ
ids_in es = map (λ (e : ℕ × Value). e.0) es

-- those of a frame of a function
abbrev pub local_ids : Accepted → ℕ → List ℕ
local_ids a function = ids_in (frame_roots a function)

-- those of the frame at a depth, where there is one
abbrev pub ids_at : Accepted → List Frame → ℕ → List ℕ
ids_at a frames depth = option_map_or (λ (f : Frame). local_ids a f.plan.function) (slice_get frames depth) []

-- ---- pointers

-- The variable that a root names is there for the frame at a depth: it is shared, or one of the invocation, or one of a frame that is no
-- deeper.
abbrev pub IsRoot : Accepted → List Frame → ℕ → Root → Type 0
IsRoot a frames depth (Shared id) = ∥ Contains (shared_ids a) id ∥₁
IsRoot a frames depth (Private id) = ∥ Contains (own_ids a) id ∥₁
IsRoot a frames depth (Local at id) = (at ≤ depth) × ∥ Contains (ids_at a frames at) id ∥₁

-- the pointer that a debug event has captured, where it has captured one
abbrev pub captured_pointer : PassedEvent → Option Pointer
captured_pointer e = option_and_then pointer_of e.value

-- it names such a variable
abbrev pub CapturesRoot : Accepted → List Frame → ℕ → PassedEvent → Type 0
CapturesRoot a frames depth e = (q : Pointer) → captured_pointer e ≡ Some q → IsRoot a frames depth q.root

-- Each pointer that is kept in a frame names such a variable, where the frame is at a depth: one that a register holds, and one that a debug
-- event which the frame passed has captured.
pub record IsRooted (a : Accepted) (frames : List Frame) (depth : ℕ) (f : Frame) : Type 0 where
  pub registers : (id : ℕ) (q : Pointer) → reads id f.pointers ≡ Some (Some q) → IsRoot a frames depth q.root
  pub events : All (CapturesRoot a frames depth) f.events

-- a pointer's variable is there, and what is loaded through the pointer is the part of its value that the path names
pub record FindsVariable (m : Memory) (i : ℕ) (q : Pointer) : Type 0 where
  pub value : Value
  pub there : root_value m i q.root ≡ Some value
  pub part : load_of m i q ≡ part_at value q.path
