-- The types whose values are lanes: Booleans, integers, and vectors of these (SPIR-V 1.6 section 3.42.6).
use Rattle.std.specs.Prelude.{◌≡◌, ℕ, Option, Some, None}
use Rattle.std.specs.Option.{option_and_then}
use Rattle.spv_types.specs.Types.{Types, form_of}
use Rattle.spv_types.specs.declared.forms.Form.{Form}
use Rattle.spv_types.specs.declared.forms.Form.TheVariants.{Bool as Boolean, Int, Vector}

-- the width of the values of a scalar form
abbrev pub scalar_width : Form → Option ℕ
scalar_width Boolean = Some 1
scalar_width (Int width sign) = Some width
scalar_width _ = None

-- the values of a form have n lanes of a width
abbrev pub IsLaneForm : Types → Form → ℕ → ℕ → Type 0
IsLaneForm ts Boolean w n = (w ≡ 1) × (n ≡ 1)
IsLaneForm ts (Int width sign) w n = (w ≡ width) × (n ≡ 1)
IsLaneForm ts (Vector component count) w n = (n ≡ count) × (option_and_then scalar_width (form_of ts component) ≡ Some w)
IsLaneForm ts _ w n = ⊥

-- the values of the type with an id have n lanes of a width
pub record HasLaneType (ts : Types) (id w n : ℕ) : Type 0 where
  pub form : Form
  pub is : form_of ts id ≡ Some form
  pub lanes : IsLaneForm ts form w n
