-- What an id stands for where a state is looked at (SPIR-V 1.6 section 2.2.1): a constant, a variable of the module, and in a frame also a
-- variable of its function and a register that holds something. An OpUndef outside functions is none of these.
use Rattle.std.specs.Prelude.{ℕ, ◌==◌, if◌then◌else◌, List, Option, Some, None, slice_get}
use Rattle.std.specs.Option.{option_and_then, option_map, option_map_or}
use Rattle.spv_base.specs.Entries.{reads}
use Rattle.spv_base.specs.declared.values.Root.TheVariants.{Local}
use Rattle.spv_base.specs.declared.values.Value.{Value}
use Rattle.spv_consts.specs.Trees.{tree_of}
use Rattle.spv_frame.specs.Frames.{Held as Frame}
use Rattle.spv_operands.specs.Values.{module_root, pointer_to, register_value}
use Rattle.spv_state.specs.Program.{Program}
use Rattle.spv_state.specs.State.{State, frames_of}
use Rattle.spv_valid.specs.Acceptance.{Accepted}
use Rattle.spv_valid.specs.Meanings.{meaning_of}
use Rattle.spv_valid.specs.declared.meanings.Meaning.{Meaning}
use Rattle.spv_valid.specs.declared.meanings.Meaning.TheVariants.{TypeDefinition, Constant, Undefined, ModuleVariable, Variable, Register, Label, Function, Other}

-- outside frames: the value of a constant, and the pointer to a variable of the module
abbrev pub module_value : Accepted → ℕ → Meaning → Option Value
module_value a id Constant = option_map (tree_of a.types) (reads id a.constants)
module_value a id ModuleVariable = Some (pointer_to (module_root a.insts id))
module_value a id TypeDefinition = None
module_value a id (Undefined ty) = None
module_value a id (Variable function) = None
module_value a id (Register function) = None
module_value a id (Label function) = None
module_value a id Function = None
module_value a id Other = None

-- in the frame at a depth also the pointer to a variable of its function, and what a register holds
abbrev pub frame_value : Accepted → Frame → ℕ → ℕ → Meaning → Option Value
frame_value a f depth id (Variable function) = if f.plan.function == function then Some (pointer_to (Local depth id)) else None
frame_value a f depth id (Register function) = register_value f id
frame_value a f depth id Constant = module_value a id Constant
frame_value a f depth id ModuleVariable = module_value a id ModuleVariable
frame_value a f depth id TypeDefinition = None
frame_value a f depth id (Undefined ty) = None
frame_value a f depth id (Label function) = None
frame_value a f depth id Function = None
frame_value a f depth id Other = None

-- at a depth among the frames of an invocation; without a frame, as outside frames
abbrev pub value_in : Accepted → List Frame → Option ℕ → ℕ → Meaning → Option Value
value_in a frames None id m = module_value a id m
value_in a frames (Some depth) id m = option_map_or (λ (f : Frame). frame_value a f depth id m) (slice_get frames depth) (module_value a id m)

-- at a depth of an invocation of a state
unfoldable pub id_value : Program → State → ℕ → Option ℕ → ℕ → Option Value
id_value p s i depth id = option_and_then (value_in p.accepted (frames_of s i) depth id) (meaning_of p.accepted.insts id)
