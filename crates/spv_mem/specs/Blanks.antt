-- The undefined value of a type, whose runtime arrays have so many elements: what a variable holds before the first store
-- (SPIR-V 1.6 section 3.42.8, OpVariable without an initializer).
use Rattle.std.specs.Prelude.{ℕ, min, nat_lt, if◌then◌else◌, [], map, length, replicate, unwrap_or, Option, Some, None}
use Rattle.std.specs.Option.{option_and_then}
use Rattle.spv_base.specs.Entries.{reads}
use Rattle.spv_base.specs.Cell.{undefined_cell}
use Rattle.spv_base.specs.declared.values.Value.{Value, Scalar, List as Many}
use Rattle.spv_types.specs.declared.forms.Form.{Form}
use Rattle.spv_types.specs.declared.forms.Form.TheVariants.{Void, Bool as Boolean, Int, Vector, Array, Runtime, Struct, Pointer, Function}
use Rattle.spv_types.specs.declared.forms.Member.{Member}
use Rattle.spv_types.specs.Rules.{is_data, last_type}
use Rattle.spv_types.specs.Types.{Types, form_of, in_first}
use Rattle.spv_mem.specs.Memory.{Held}

-- The value of a form, where blank gives those of its parts. No integer is wider than 64 bits, and what is no data has no parts.
abbrev pub blank_step : ℕ → (ℕ → Value) → Form → Value
blank_step n blank Void = Many []
blank_step n blank Boolean = Scalar (undefined_cell 1)
blank_step n blank (Int width sign) = Scalar (undefined_cell (min width 64))
blank_step n blank (Vector component count) = Many (replicate count (blank component))
blank_step n blank (Array element length stride) = Many (replicate (unwrap_or length 0) (blank element))
blank_step n blank (Runtime element stride) = Many (replicate n (blank element))
blank_step n blank (Struct members block) = Many (map (λ (m : Member). blank m.ty) members)
blank_step n blank (Pointer class target) = Many []
blank_step n blank (Function returns parameters) = Many []

unfoldable pub blank_among : Types → ℕ → ℕ → ℕ → Value
blank_among ts n = in_first (Many []) (blank_step n) ts

-- the undefined value of the type with an id, where runtime arrays have n elements
unfoldable pub blank_of : Types → ℕ → ℕ → Value
blank_of ts n id = blank_among ts n (length ts) id

-- what the variable with an id holds before the first store, where it has a type of data
abbrev pub blank_in : Held → ℕ → ℕ → Option Value
blank_in m id n = option_and_then (λ type. if is_data (form_of m.types type) then Some (blank_of m.types n type) else None) (reads id m.targets)

-- ---- the parts of such a value

-- how many parts one of a form has
abbrev pub part_count : ℕ → Form → ℕ
part_count n (Vector component count) = count
part_count n (Array element length stride) = unwrap_or length 0
part_count n (Runtime element stride) = n
part_count n (Struct members block) = length members
part_count n _ = 0

abbrev pub if_any : ℕ → ℕ → Option ℕ
if_any count type = if nat_lt 0 count then Some type else None

-- the type of its last part
abbrev pub last_part : ℕ → Form → Option ℕ
last_part n (Vector component count) = if_any count component
last_part n (Array element length stride) = if_any (unwrap_or length 0) element
last_part n (Runtime element stride) = if_any n element
last_part n (Struct members block) = last_type members
last_part n _ = None
