-- What a type's form is made of (SPIR-V 1.6 section 3.42.6), where there is such a type.
use Rattle.std.specs.Prelude.{ℕ, Bool, true, false, List, [], Option, Some, None, slice_get}
use Rattle.std.specs.Option.{option_map}
use Rattle.spv_types.specs.declared.forms.Form.{Form}
use Rattle.spv_types.specs.declared.forms.Form.TheVariants.{Void, Bool as Boolean, Int, Vector, Struct, Pointer, Function}
use Rattle.spv_types.specs.declared.forms.Member.{Member}
use Rattle.spv_types.specs.declared.queries.Pointed.{Pointed}
use Rattle.spv_types.specs.declared.queries.Components.{Components}

abbrev pub is_void : Option Form → Bool
is_void (Some Void) = true
is_void _ = false

-- a scalar Boolean
abbrev pub is_boolean : Option Form → Bool
is_boolean (Some Boolean) = true
is_boolean _ = false

-- a scalar integer, of any width
abbrev pub is_integer : Option Form → Bool
is_integer (Some (Int width sign)) = true
is_integer _ = false

abbrev pub is_pointer : Option Form → Bool
is_pointer (Some (Pointer class target)) = true
is_pointer _ = false

-- the storage class and the target of a pointer type
abbrev pub pointee : Option Form → Option Pointed
pointee (Some (Pointer class target)) = Some (record { class = class; target = target })
pointee _ = None

-- the components of a vector type
abbrev pub components_in : Option Form → Option Components
components_in (Some (Vector component count)) = Some (record { ty = component; count = count })
components_in _ = None

-- the type of a member of a struct type
abbrev pub member_type : List Member → ℕ → Option ℕ
member_type members n = option_map (λ (m : Member). m.ty) (slice_get members n)

abbrev pub member_of : Option Form → ℕ → Option ℕ
member_of (Some (Struct members block)) n = member_type members n
member_of _ n = None

-- the type that a function of a type returns
abbrev pub return_type : Option Form → Option ℕ
return_type (Some (Function returns parameters)) = Some returns
return_type _ = None

-- the types of its parameters
abbrev pub parameters_in : Option Form → List ℕ
parameters_in (Some (Function returns parameters)) = parameters
parameters_in _ = []
