-- The leaves of the values of a type, and the null value and the undefined value of a type (SPIR-V 1.6 sections 3.42.1, OpUndef,
-- and 3.42.7, OpConstantNull): each leaf has the number 0, and is defined in the one and undefined in the other.
use Rattle.std.specs.Prelude.{ℕ, min, Bool, true, false, List, [], ◌∷◌, ◌++◌, map, length, replicate, unwrap_or}
use Rattle.std.specs.List.{flat_map}
use Rattle.spv_base.specs.Cell.{Cell}
use Rattle.spv_types.specs.declared.forms.Form.{Form}
use Rattle.spv_types.specs.declared.forms.Form.TheVariants.{Void, Bool as Boolean, Int, Vector, Array, Runtime, Struct, Pointer, Function}
use Rattle.spv_types.specs.declared.forms.Member.{Member}
use Rattle.spv_types.specs.Types.{Types, in_first}

-- the types of the parts of a form, in order
abbrev pub part_types : Form → List ℕ
part_types (Vector component count) = replicate count component
part_types (Array element n stride) = replicate (unwrap_or n 0) element
part_types (Struct members block) = map (λ (m : Member). m.ty) members
part_types _ = []

-- the width of the leaf that a scalar is
abbrev pub own_width : Form → List ℕ
own_width Boolean = 1 ∷ []
own_width (Int width sign) = width ∷ []
own_width _ = []

-- the widths of a form's leaves: its own, or those of its parts
abbrev pub widths_step : (ℕ → List ℕ) → Form → List ℕ
widths_step widths f = own_width f ++ flat_map widths (part_types f)

unfoldable pub widths_among : Types → ℕ → ℕ → List ℕ
widths_among = in_first [] widths_step

-- the widths of the leaves of a type of data, in order
unfoldable pub leaf_widths : Types → ℕ → List ℕ
leaf_widths ts id = widths_among ts (length ts) id

-- a lane of zeros, defined or not; no lane is wider than 64 bits
abbrev pub blank_cell : Bool → ℕ → Cell
blank_cell defined width = record { bits = 0; width = min width 64; defined = defined }

-- the row of a type whose leaves are all 0, defined or not
abbrev pub blank_of : Bool → Types → ℕ → List Cell
blank_of defined ts id = map (blank_cell defined) (leaf_widths ts id)

abbrev pub null_of : Types → ℕ → List Cell
null_of = blank_of true

abbrev pub undefined_of : Types → ℕ → List Cell
undefined_of = blank_of false
