-- What an id stands for: by the opcode of the instruction that defines it, and whether that stands in a function.
use Rattle.std.specs.Prelude.{ℕ, List, [], ◌∷◌, Option, if◌then◌else◌, unwrap_or}
use Rattle.std.specs.Option.{option_map}
use Rattle.spv_base.specs.Entries.{reads}
use Rattle.spv_base.specs.declared.instructions.Inst.{Inst}
use Rattle.spv_index.specs.Positions.{Stand, in_function, stand_of}
use Rattle.spv_valid.specs.declared.meanings.Meaning.{Meaning}
use Rattle.spv_valid.specs.declared.meanings.Meaning.TheVariants.{TypeDefinition, Constant, Undefined, ModuleVariable, Variable, Register, Label, Function, Other}

-- outside functions: OpUndef (1) with its type, OpType.. (19 to 33), OpConstant.. and OpSpecConstant.. (41 to 52), OpFunction (54) and
-- OpVariable (59). An OpFunction stands before the function that it begins.
abbrev pub outside_meanings : ℕ → List (ℕ × Meaning)
outside_meanings ty =
    (1, Undefined ty) ∷ (19, TypeDefinition) ∷ (20, TypeDefinition) ∷ (21, TypeDefinition) ∷ (23, TypeDefinition) ∷ (28, TypeDefinition) ∷ (29, TypeDefinition) ∷ (30, TypeDefinition) ∷ (32, TypeDefinition) ∷ (33, TypeDefinition)
    ∷ (41, Constant) ∷ (42, Constant) ∷ (43, Constant) ∷ (44, Constant) ∷ (46, Constant) ∷ (48, Constant) ∷ (49, Constant) ∷ (50, Constant) ∷ (51, Constant) ∷ (52, Constant)
    ∷ (54, Function) ∷ (59, ModuleVariable) ∷ []

-- in a function: OpVariable (59) and OpLabel (248); every other result is a register, an undefined value and a parameter too
abbrev pub inside_meanings : ℕ → List (ℕ × Meaning)
inside_meanings function = (59, Variable function) ∷ (248, Label function) ∷ []

abbrev pub meaning_at : Stand → Meaning
meaning_at s =
    if in_function s.position.stage
    then unwrap_or (reads s.inst.op (inside_meanings s.position.function)) (Register s.position.function)
    else unwrap_or (reads s.inst.op (outside_meanings s.inst.ty)) Other

-- what an id stands for, where an instruction defines it
abbrev pub meaning_of : List Inst → ℕ → Option Meaning
meaning_of insts id = option_map meaning_at (stand_of insts id)
