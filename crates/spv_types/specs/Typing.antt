-- The form that a type instruction defines, with the decorations that the module gives it (SPIR-V 1.6 section 3.42.6).
use Rattle.std.specs.Prelude.{ℕ, suc, ◌==◌, if◌then◌else◌, List, [], ◌∷◌, ◌++◌, drop, Option, Some, None}
use Rattle.std.specs.Option.{is_some, option_map}
use Rattle.spv_base.specs.declared.instructions.Inst.{Inst}
use Rattle.spv_base.specs.declared.instructions.Operand.{Operand}
use Rattle.spv_types.specs.declared.forms.Form.{Form}
use Rattle.spv_types.specs.declared.forms.Form.TheVariants.{Void, Bool as Boolean, Int, Vector, Array, Runtime, Struct, Pointer, Function}
use Rattle.spv_types.specs.declared.forms.Member.{Member}
use Rattle.spv_types.specs.Types.{Types}
use Rattle.spv_index.specs.Definitions.{before_functions, decorating, decoration, member_decoration}
use Rattle.spv_index.specs.Operands.{id_in, id_operand, literal_operand}

-- something made of two parts, where both are there
abbrev pub of_both : {A B C : Type 0} → (A → B → C) → Option A → Option B → Option C
of_both make None b = None
of_both make (Some a) None = None
of_both make (Some a) (Some b) = Some (make a b)

-- the ids that some operands are, where each is one
unfoldable pub ids_in : List Operand → Option (List ℕ)
ids_in [] = Some []
ids_in (o ∷ os) = of_both (λ id ids. id ∷ ids) (id_in o) (ids_in os)

-- the members of a struct from number n on, each with the Offset that an OpMemberDecorate gives it, where each operand is an id
unfoldable pub members_from : List Inst → ℕ → ℕ → List Operand → Option (List Member)
members_from all id n [] = Some []
members_from all id n (o ∷ os) = of_both (λ ty ms. record { ty = ty; offset = member_decoration all id n 35 } ∷ ms) (id_in o) (members_from all id (suc n) os)

-- The forms that type instructions define by their operands: none where an operand isn't there, or is of another kind.

abbrev pub integer_form : Inst → Option Form
integer_form i = of_both Int (literal_operand i 0) (literal_operand i 1)

abbrev pub vector_form : Inst → Option Form
vector_form i = of_both Vector (id_operand i 0) (literal_operand i 1)

-- an array has its ArrayStride; its length is set once constants are known
abbrev pub array_form : List Inst → Inst → Option Form
array_form all i = option_map (λ element. Array element None (decoration all i.id 6)) (id_operand i 0)

abbrev pub runtime_form : List Inst → Inst → Option Form
runtime_form all i = option_map (λ element. Runtime element (decoration all i.id 6)) (id_operand i 0)

-- a struct may be a Block
abbrev pub struct_form : List Inst → Inst → Option Form
struct_form all i = option_map (λ members. Struct members (is_some (decorating all i.id 2))) (members_from all i.id 0 i.operands)

abbrev pub pointer_form : Inst → Option Form
pointer_form i = of_both Pointer (literal_operand i 0) (id_operand i 1)

abbrev pub function_form : Inst → Option Form
function_form i = of_both Function (id_operand i 0) (ids_in (drop 1 i.operands))

-- The form that an instruction of a module defines, where it is OpTypeVoid, OpTypeBool, OpTypeInt, OpTypeVector, OpTypeArray,
-- OpTypeRuntimeArray, OpTypeStruct, OpTypePointer or OpTypeFunction.
unfoldable pub defined_form : List Inst → Inst → Option Form
defined_form all i =
    if i.op == 19 then Some Void
    else (if i.op == 20 then Some Boolean
    else (if i.op == 21 then integer_form i
    else (if i.op == 23 then vector_form i
    else (if i.op == 28 then array_form all i
    else (if i.op == 29 then runtime_form all i
    else (if i.op == 30 then struct_form all i
    else (if i.op == 32 then pointer_form i
    else (if i.op == 33 then function_form i
    else None))))))))

-- the type that an instruction adds to some types
abbrev pub with_form : Types → ℕ → Option Form → Types
with_form ts id None = ts
with_form ts id (Some f) = ts ++ (id, f) ∷ []

-- the types among the first instructions of a module, in their order
unfoldable pub types_in : List Inst → List Inst → Types
types_in all [] = []
types_in all (i ∷ is) = with_form [] i.id (defined_form all i) ++ types_in all is

-- the types that a module declares
abbrev pub types_read : List Inst → Types
types_read insts = types_in insts (before_functions insts)
