-- The lanes of a type: its components, each a Boolean or an integer of a width (SPIR-V 1.6 section 2.2.1, "Scalar" and
-- "Vector"). The sign of an integer type is not looked at.
use Rattle.std.specs.Prelude.{ℕ, ◌*◌, ◌==◌, ◌&&◌, nat_le, Bool, true, false, Option, Some, None}
use Rattle.std.specs.Option.{option_map, option_and_then}
use Rattle.spv_types.specs.declared.forms.Form.{Form}
use Rattle.spv_types.specs.declared.forms.Form.TheVariants.{Void, Bool as FormBool, Int as FormInt, Vector, Array, Runtime, Struct, Pointer, Function}
use Rattle.spv_types.specs.Types.{Types, form_of}
use Rattle.spv_typing.specs.declared.lanes.Element.{Element}
use Rattle.spv_typing.specs.declared.lanes.Element.TheVariants.{Bool as Boolean, Int}
use Rattle.spv_typing.specs.declared.lanes.Lanes.{Lanes}

-- what a scalar type is
abbrev pub element_of : Option Form → Option Element
element_of (Some FormBool) = Some Boolean
element_of (Some (FormInt width sign)) = Some (Int width)
element_of _ = None

abbrev pub repeated : ℕ → Element → Lanes
repeated count element = record { count = count; element = element }

-- a scalar has one lane, and a vector has as many as components
abbrev pub form_lanes : Types → Option Form → Option Lanes
form_lanes ts (Some FormBool) = Some (repeated 1 Boolean)
form_lanes ts (Some (FormInt width sign)) = Some (repeated 1 (Int width))
form_lanes ts (Some (Vector component count)) = option_map (repeated count) (element_of (form_of ts component))
form_lanes ts _ = None

-- the lanes of the type with an id; none where it is no scalar and no vector
unfoldable pub lanes_of : Types → ℕ → Option Lanes
lanes_of ts id = form_lanes ts (form_of ts id)

-- the lanes of an operand's type, where it has one
abbrev pub lanes_at : Types → Option ℕ → Option Lanes
lanes_at ts ty = option_and_then (lanes_of ts) ty

-- ---- tests

-- lanes of one kind: Booleans, or integers of one width
abbrev pub same_element : Element → Element → Bool
same_element Boolean Boolean = true
same_element Boolean (Int width) = false
same_element (Int width) Boolean = false
same_element (Int width) (Int other) = width == other

-- as many lanes, of one kind
abbrev pub same_lanes : Option Lanes → Option Lanes → Bool
same_lanes None b = false
same_lanes (Some a) None = false
same_lanes (Some a) (Some b) = a.count == b.count && same_element a.element b.element

-- as many lanes
abbrev pub same_count : Option Lanes → Option Lanes → Bool
same_count None b = false
same_count (Some a) None = false
same_count (Some a) (Some b) = a.count == b.count

abbrev pub is_integer : Element → Bool
is_integer Boolean = false
is_integer (Int width) = true

abbrev pub is_boolean : Element → Bool
is_boolean Boolean = true
is_boolean (Int width) = false

-- integers, one or several
abbrev pub are_integers : Option Lanes → Bool
are_integers None = false
are_integers (Some lanes) = is_integer lanes.element

-- Booleans, one or several
abbrev pub are_booleans : Option Lanes → Bool
are_booleans None = false
are_booleans (Some lanes) = is_boolean lanes.element

-- one lane
abbrev pub is_single : Option Lanes → Bool
is_single None = false
is_single (Some lanes) = lanes.count == 1

-- several lanes, as only a vector has
abbrev pub are_several : Option Lanes → Bool
are_several None = false
are_several (Some lanes) = nat_le 2 lanes.count

-- the bits of one lane; a Boolean has none
abbrev pub bits_of : Element → ℕ
bits_of Boolean = 0
bits_of (Int width) = width

-- the width of one lane; a Boolean's is 1
abbrev pub width_of : Element → ℕ
width_of Boolean = 1
width_of (Int width) = width

-- the bits of all lanes together
abbrev pub size_of : Lanes → ℕ
size_of lanes = lanes.count * bits_of lanes.element

-- as many bits
abbrev pub same_size : Option Lanes → Option Lanes → Bool
same_size None b = false
same_size (Some a) None = false
same_size (Some a) (Some b) = size_of a == size_of b
