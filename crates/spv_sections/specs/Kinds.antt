-- The kinds of ids, and which kinds the ids in an instruction's operands are of (SPIR-V 1.6 sections 2.2.1 and 3.42). The opcodes
-- that define types and constants are those of sections 3.42.6 and 3.42.7.
use Rattle.std.specs.Prelude.{ℕ, Bool, true, false, List, [], ◌∷◌, ◌==◌, ◌%◌, if◌then◌else◌, unwrap_or}
use Rattle.spv_base.specs.Entries.{reads}
use Rattle.spv_sections.specs.declared.kinds.Kind.{Kind}
use Rattle.spv_sections.specs.declared.kinds.Kind.TheVariants.{DeclaredType, Constant, ModuleVariable, Function, Label, Computed, String, Import}
use Rattle.spv_sections.specs.declared.kinds.Wanted.{Wanted}
use Rattle.spv_sections.specs.declared.kinds.Wanted.TheVariants.{DeclaredType as WantedType, Value, Function as WantedFunction, Label as WantedLabel, Set, File, Interface, Anything}
use Rattle.spv_sections.specs.declared.kinds.Uses.{Uses}
use Rattle.spv_sections.specs.declared.kinds.Uses.TheVariants.{Each, First, Turns}

-- What a result is, by opcode, where the instruction stands in a function or not. Every other result is a computed one.
abbrev pub kinds : Bool → List (ℕ × Kind)
kinds local =
    (7, String) ∷ (11, Import)
    ∷ (19, DeclaredType) ∷ (20, DeclaredType) ∷ (21, DeclaredType) ∷ (23, DeclaredType) ∷ (28, DeclaredType) ∷ (29, DeclaredType)
    ∷ (30, DeclaredType) ∷ (32, DeclaredType) ∷ (33, DeclaredType)
    ∷ (41, Constant) ∷ (42, Constant) ∷ (43, Constant) ∷ (44, Constant) ∷ (46, Constant)
    ∷ (48, Constant) ∷ (49, Constant) ∷ (50, Constant) ∷ (51, Constant) ∷ (52, Constant)
    ∷ (54, Function) ∷ (59, if local then Computed else ModuleVariable) ∷ (248, Label) ∷ []

abbrev pub kind_of : Bool → ℕ → Kind
kind_of local op = unwrap_or (reads op (kinds local)) Computed

-- What the ids in the operands have to stand for, by opcode: in OpPhi values and labels by turns. In every other opcode
-- they are values. Names and decorations may be of ids that nothing defines.
abbrev pub uses : List (ℕ × Uses)
uses =
    (3, Each File) ∷ (5, Each Anything) ∷ (6, Each Anything) ∷ (8, Each File) ∷ (12, First Set Value)
    ∷ (15, First WantedFunction Interface) ∷ (16, Each WantedFunction)
    ∷ (23, Each WantedType) ∷ (28, First WantedType Value) ∷ (29, Each WantedType) ∷ (30, Each WantedType) ∷ (32, Each WantedType) ∷ (33, Each WantedType)
    ∷ (54, Each WantedType) ∷ (57, First WantedFunction Value) ∷ (71, Each Anything) ∷ (72, Each Anything)
    ∷ (245, Turns Value WantedLabel) ∷ (246, Each WantedLabel) ∷ (247, Each WantedLabel) ∷ (249, Each WantedLabel)
    ∷ (250, First Value WantedLabel) ∷ (251, First Value WantedLabel) ∷ (331, First WantedFunction Value) ∷ []

abbrev pub uses_of : ℕ → Uses
uses_of op = unwrap_or (reads op uses) (Each Value)

-- what the id with a number among the ids of the operands has to stand for
abbrev pub wanted : Uses → ℕ → Wanted
wanted (Each each) number = each
wanted (First first other) number = if number == 0 then first else other
wanted (Turns one other) number = if number % 2 == 0 then one else other

-- a type
abbrev pub is_type : Kind → Bool
is_type DeclaredType = true
is_type _ = false

-- a constant, a variable, a parameter or another result
abbrev pub is_value : Kind → Bool
is_value Constant = true
is_value ModuleVariable = true
is_value Computed = true
is_value _ = false

-- a variable of the module
abbrev pub is_module_variable : Kind → Bool
is_module_variable ModuleVariable = true
is_module_variable _ = false

-- a function
abbrev pub is_function : Kind → Bool
is_function Function = true
is_function _ = false

-- a label
abbrev pub is_label : Kind → Bool
is_label Label = true
is_label _ = false

-- a string
abbrev pub is_string : Kind → Bool
is_string String = true
is_string _ = false

-- an imported set
abbrev pub is_import : Kind → Bool
is_import Import = true
is_import _ = false

-- an id of some kind stands for what is wanted
abbrev pub fits : Wanted → Kind → Bool
fits WantedType kind = is_type kind
fits Value kind = is_value kind
fits WantedFunction kind = is_function kind
fits WantedLabel kind = is_label kind
fits Set kind = is_import kind
fits File kind = is_string kind
fits Interface kind = is_module_variable kind
fits Anything kind = true

-- such an id may be one that nothing defines
abbrev pub is_anything : Wanted → Bool
is_anything Anything = true
is_anything _ = false
