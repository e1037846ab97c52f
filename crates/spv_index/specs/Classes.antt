-- What an instruction is to the functions and blocks of a module (SPIR-V 1.6 section 2.4).
use Rattle.std.specs.Prelude.{ℕ, Bool, true, false, List, [], ◌∷◌, ◌==◌, nat_eq, if◌then◌else◌, unwrap_or, codes, Some, slice_get}
use Rattle.std.specs.Option.{option_and_then, option_eq, option_map}
use Rattle.std.specs.List.{flat_map, starts_with}
use Rattle.spv_base.specs.Entries.{reads}
use Rattle.spv_base.specs.declared.instructions.Inst.{Inst}
use Rattle.spv_base.specs.declared.instructions.Operand.{Operand}
use Rattle.spv_base.specs.declared.instructions.Operand.TheVariants.{Id, Lit, Text}
use Rattle.spv_index.specs.Operands.{id_operand, literal_operand}
use Rattle.spv_index.specs.declared.classes.Class.{Class}
use Rattle.spv_index.specs.declared.classes.Class.TheVariants.{Function, Parameter, End, Label, Line, Phi, Variable, Terminator, Passed, Executable}

-- the bytes of an operand, which only a string has
abbrev pub text_in : Operand → List ℕ
text_in (Id _) = []
text_in (Lit _) = []
text_in (Text bytes) = bytes

-- the name of an imported set
abbrev pub name_of : Inst → List ℕ
name_of inst = unwrap_or (option_map text_in (slice_get inst.operands 0)) []

-- The imported sets, each with whether its name begins with "NonSemantic." (SPIR-V 1.6, OpExtInstImport).
abbrev pub set_of : Inst → List (ℕ × Bool)
set_of inst = if inst.op == 11 then (inst.id, starts_with nat_eq (name_of inst) (codes "NonSemantic.")) ∷ [] else []

abbrev pub sets_of : List Inst → List (ℕ × Bool)
sets_of insts = flat_map set_of insts

-- an instruction of the set that its first operand names, where this set has no meaning at run time
abbrev pub is_debug : List (ℕ × Bool) → Inst → Bool
is_debug sets inst = unwrap_or (option_and_then (λ set. reads set sets) (id_operand inst 0)) false

-- By opcode: OpExtInst (12) and OpVariable (59) by their set and their storage class too. Every other opcode is an executable.
abbrev pub classes : Bool → Bool → List (ℕ × Class)
classes debug local =
    (0, Passed) ∷ (8, Line) ∷ (12, if debug then Line else Executable) ∷ (54, Function) ∷ (55, Parameter) ∷ (56, End)
    ∷ (59, if local then Variable else Passed) ∷ (245, Phi) ∷ (246, Passed) ∷ (247, Passed) ∷ (248, Label)
    ∷ (249, Terminator) ∷ (250, Terminator) ∷ (251, Terminator) ∷ (253, Terminator) ∷ (254, Terminator) ∷ (255, Terminator)
    ∷ (317, Line) ∷ []

-- a variable of a function has the storage class Function, number 7
abbrev pub is_local : Inst → Bool
is_local inst = option_eq nat_eq (literal_operand inst 0) (Some 7)

abbrev pub class_of : List (ℕ × Bool) → Inst → Class
class_of sets inst = unwrap_or (reads inst.op (classes (is_debug sets inst) (is_local inst))) Executable

-- a run stops at it: everything in a block but labels, phis, variables, lines, merges, OpNop and instructions with no meaning
abbrev pub is_executable : Class → Bool
is_executable Terminator = true
is_executable Executable = true
is_executable _ = false

-- a block has ended, or should have, where one of these stands
abbrev pub ends_block : Class → Bool
ends_block Function = true
ends_block End = true
ends_block Label = true
ends_block _ = false

abbrev pub is_label : Class → Bool
is_label Label = true
is_label _ = false

abbrev pub is_terminator : Class → Bool
is_terminator Terminator = true
is_terminator _ = false

abbrev pub is_phi : Class → Bool
is_phi Phi = true
is_phi _ = false
