-- The value that an id stands for where an instruction of a frame reads it (SPIR-V 1.6 section 2.2.1): a constant's, an undefined one of
-- the type of an OpUndef outside functions, the pointer to a variable, or what a register of the frame holds.
use Rattle.std.specs.Prelude.{ℕ, ◌==◌, ◌||◌, if◌then◌else◌, List, [], Option, Some, None, unwrap_or, Bool, false}
use Rattle.std.specs.Option.{is_some, option_and_then, option_map, option_map_or}
use Rattle.spv_base.specs.Entries.{reads}
use Rattle.spv_base.specs.declared.instructions.Inst.{Inst}
use Rattle.spv_base.specs.declared.values.Root.{Root}
use Rattle.spv_base.specs.declared.values.Root.TheVariants.{Shared, Private, Local}
use Rattle.spv_base.specs.declared.values.Value.{Value, Ptr}
use Rattle.spv_consts.specs.Trees.{tree_of}
use Rattle.spv_index.specs.Definitions.{defining}
use Rattle.spv_index.specs.Operands.{id_operand, literal_operand}
use Rattle.spv_mem.specs.Blanks.{blank_of}
use Rattle.spv_frame.specs.Frames.{Held}
use Rattle.spv_frame.specs.Registers.{ids, number_of}
use Rattle.spv_valid.specs.Acceptance.{Accepted}
use Rattle.spv_valid.specs.Meanings.{meaning_of}
use Rattle.spv_valid.specs.declared.meanings.Meaning.{Meaning}
use Rattle.spv_valid.specs.declared.meanings.Meaning.TheVariants.{TypeDefinition, Constant, Undefined, ModuleVariable, Variable, Register, Label, Function, Other}

-- ---- variables

-- the storage class of an OpVariable, its first operand
abbrev pub storage_class : List Inst → ℕ → Option ℕ
storage_class insts id = option_and_then (λ i. literal_operand i 0) (defining insts id)

-- an invocation has variables of the classes Input (1) and Private (6) for itself
abbrev pub is_own : ℕ → Bool
is_own class = class == 1 || class == 6

-- the root that a variable outside functions is
abbrev pub module_root : List Inst → ℕ → Root
module_root insts id = if option_map_or is_own (storage_class insts id) false then Private id else Shared id

-- the pointer to a variable
abbrev pub pointer_to : Root → Value
pointer_to r = Ptr (record { root = r; path = [] })

-- ---- registers

-- what a register of a frame holds, if the frame's plan has one with the id and it holds something: a value or a pointer
abbrev pub register_value : Held → ℕ → Option Value
register_value f id =
    if is_some (number_of id (ids f.plan.values)) then unwrap_or (reads id f.values) None
    else if is_some (number_of id f.plan.pointers) then option_map Ptr (unwrap_or (reads id f.pointers) None)
    else None

-- ---- operands

-- In the frame at a depth. A variable of a function is one of its own frame.
abbrev pub value_by : Accepted → Held → ℕ → ℕ → Meaning → Option Value
value_by a f depth id Constant = option_map (tree_of a.types) (reads id a.constants)
value_by a f depth id (Undefined ty) = Some (blank_of a.types 0 ty)
value_by a f depth id ModuleVariable = Some (pointer_to (module_root a.insts id))
value_by a f depth id (Variable function) = if f.plan.function == function then Some (pointer_to (Local depth id)) else None
value_by a f depth id (Register function) = register_value f id
value_by a f depth id TypeDefinition = None
value_by a f depth id (Label function) = None
value_by a f depth id Function = None
value_by a f depth id Other = None

unfoldable pub value_of : Accepted → Held → ℕ → ℕ → Option Value
value_of a f depth id = option_and_then (value_by a f depth id) (meaning_of a.insts id)

-- the value of the operand with a number of an instruction
abbrev pub operand_value : Accepted → Held → ℕ → Inst → ℕ → Option Value
operand_value a f depth i n = option_and_then (value_of a f depth) (id_operand i n)
