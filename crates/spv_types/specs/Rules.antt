-- The rules that types, and the variables and undefined values before the functions, keep (SPIR-V 1.6 sections 2.16.1,
-- 2.16.2, 3.42.6 and 3.42.8, and this project's profile). A rule asks about the types before the instruction.
use Rattle.std.specs.Prelude.{ℕ, ◌==◌, ◌&&◌, ◌||◌, not, nat_le, if◌then◌else◌, Bool, true, false, List, [], ◌∷◌, length, Option, Some, None}
use Rattle.std.specs.Option.{option_map_or}
use Rattle.spv_base.specs.declared.instructions.Inst.{Inst}
use Rattle.spv_base.specs.Options.{holds}
use Rattle.spv_types.specs.declared.forms.Form.{Form}
use Rattle.spv_types.specs.declared.forms.Form.TheVariants.{Void, Bool as Boolean, Int, Vector, Array, Runtime, Struct, Pointer, Function}
use Rattle.spv_types.specs.declared.forms.Member.{Member}
use Rattle.spv_types.specs.Types.{Types, form_of}
use Rattle.spv_types.specs.Constants.{is_constant}
use Rattle.spv_index.specs.Definitions.{decoration, defining}
use Rattle.spv_index.specs.Operands.{id_operand, literal_operand}
use Rattle.spv_types.specs.Typing.{defined_form}

-- a Boolean or integer type
abbrev pub is_scalar : Option Form → Bool
is_scalar (Some Boolean) = true
is_scalar (Some (Int width sign)) = true
is_scalar _ = false

-- a type of data: not void, a pointer or a function
abbrev pub is_data : Option Form → Bool
is_data (Some Boolean) = true
is_data (Some (Int width sign)) = true
is_data (Some (Vector component count)) = true
is_data (Some (Array element length stride)) = true
is_data (Some (Runtime element stride)) = true
is_data (Some (Struct members block)) = true
is_data _ = false

abbrev pub is_runtime : Option Form → Bool
is_runtime (Some (Runtime element stride)) = true
is_runtime _ = false

-- the last member's type
abbrev pub last_type : List Member → Option ℕ
last_type [] = None
last_type (m ∷ []) = Some m.ty
last_type (m ∷ n ∷ ms) = last_type (n ∷ ms)

-- the type with a runtime array: one itself, or a struct whose last member is one
abbrev pub form_has_runtime : Types → Option Form → Bool
form_has_runtime ts (Some (Runtime element stride)) = true
form_has_runtime ts (Some (Struct members block)) = option_map_or (λ ty. is_runtime (form_of ts ty)) (last_type members) false
form_has_runtime ts _ = false

abbrev pub has_runtime : Types → ℕ → Bool
has_runtime ts id = form_has_runtime ts (form_of ts id)

-- a type of data without a runtime array, as members, elements and undefined values have
abbrev pub is_sized_data : Types → ℕ → Bool
is_sized_data ts id = is_data (form_of ts id) && not (has_runtime ts id)

-- a member is sized data, or, as the last of a Block struct, a runtime array
abbrev pub keeps_member : Types → Bool → Bool → ℕ → Bool
keeps_member ts block last ty = is_sized_data ts ty || (last && (block && is_runtime (form_of ts ty)))

unfoldable pub keep_members : Types → Bool → List Member → Bool
keep_members ts block [] = true
keep_members ts block (m ∷ ms) = keeps_member ts block (length ms == 0) m.ty && keep_members ts block ms

abbrev pub is_width : ℕ → Bool
is_width n = (n == 8 || n == 16) || (n == 32 || n == 64)

-- the storage classes Input, Uniform, Workgroup, Private, Function, PushConstant and StorageBuffer
abbrev pub is_class : ℕ → Bool
is_class n = ((n == 1 || n == 2) || (n == 4 || n == 6)) || ((n == 7 || n == 9) || n == 12)

-- the rules of types
abbrev pub keeps_form : Types → Form → Bool
keeps_form ts Void = true
keeps_form ts Boolean = true
keeps_form ts (Int width sign) = is_width width && nat_le sign 1
keeps_form ts (Vector component count) = is_scalar (form_of ts component) && (nat_le 2 count && nat_le count 4)
keeps_form ts (Array element length stride) = is_sized_data ts element
keeps_form ts (Runtime element stride) = is_sized_data ts element
keeps_form ts (Struct members block) = keep_members ts block members
keeps_form ts (Pointer class target) = is_class class && is_data (form_of ts target)
keeps_form ts (Function returns parameters) = true

-- a struct decorated Block
abbrev pub is_block : Option Form → Bool
is_block (Some (Struct members block)) = block
is_block _ = false

-- an integer of 32 bits
abbrev pub is_word : Option Form → Bool
is_word (Some (Int width sign)) = width == 32
is_word _ = false

-- three integers of 32 bits
abbrev pub is_three_words : Types → Option Form → Bool
is_three_words ts (Some (Vector component count)) = count == 3 && is_word (form_of ts component)
is_three_words ts _ = false

-- a built-in that an Input variable may be, of its type: NumWorkgroups, WorkgroupId, LocalInvocationId and
-- GlobalInvocationId of three words, and LocalInvocationIndex of one
abbrev pub is_input : Types → Option ℕ → ℕ → Bool
is_input ts None target = false
is_input ts (Some b) target =
    (((b == 24 || b == 26) || (b == 27 || b == 28)) && is_three_words ts (form_of ts target))
    || (b == 29 && is_word (form_of ts target))

-- a constant of a type
abbrev pub is_constant_of : ℕ → Inst → Bool
is_constant_of ty i = is_constant i.op && i.ty == ty

-- an id is that of a constant of a type
abbrev pub names_constant : List Inst → ℕ → ℕ → Bool
names_constant all ty id = option_map_or (is_constant_of ty) (defining all id) false

-- an initializer, behind the storage class, is a constant of the target type, of a Private variable
abbrev pub keeps_initializer : List Inst → ℕ → ℕ → Inst → Bool
keeps_initializer all class target i = nat_le (length i.operands) 1 || (class == 6 && option_map_or (names_constant all target) (id_operand i 1) false)

-- The rules of a variable of a class before the functions, by its target: the class is not Function; a runtime array is in a
-- StorageBuffer alone; a StorageBuffer, Uniform or PushConstant is a Block; and an Input has a BuiltIn.
abbrev pub keeps_target : List Inst → Types → Inst → ℕ → ℕ → Bool
keeps_target all ts i class target =
    not (class == 7)
    && ((not (has_runtime ts target) || class == 12)
    && ((not ((class == 12 || class == 2) || class == 9) || is_block (form_of ts target))
    && ((not (class == 1) || is_input ts (decoration all i.id 11) target)
    && keeps_initializer all class target i)))

-- a variable has a pointer type of its own class
abbrev pub keeps_pointer : List Inst → Types → Inst → Option Form → Bool
keeps_pointer all ts i (Some (Pointer class target)) = holds class (literal_operand i 0) && keeps_target all ts i class target
keeps_pointer all ts i _ = false

-- OpTypeVoid 19, OpTypeBool 20, OpTypeInt 21, OpTypeVector 23, OpTypeArray 28, OpTypeRuntimeArray 29, OpTypeStruct 30,
-- OpTypePointer 32 and OpTypeFunction 33
abbrev pub is_type : ℕ → Bool
is_type op = ((nat_le 19 op && nat_le op 21) || op == 23) || ((nat_le 28 op && nat_le op 30) || (nat_le 32 op && nat_le op 33))

-- a type, or an OpVariable or OpUndef, keeps its rules; a type instruction defines a form
abbrev pub keeps_other : List Inst → Types → Inst → Option Form → Bool
keeps_other all ts i None = if i.op == 59 then keeps_pointer all ts i (form_of ts i.ty) else (if i.op == 1 then is_sized_data ts i.ty else not (is_type i.op))
keeps_other all ts i (Some f) = keeps_form ts f

-- an instruction before the functions keeps the rules of types, after some types
unfoldable pub keeps_rules : List Inst → Types → Inst → Bool
keeps_rules all ts i = keeps_other all ts i (defined_form all i)
