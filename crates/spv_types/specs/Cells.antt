-- The leaves of the values of a type: how many there are. A scalar and a pointer are one leaf each.
use Rattle.std.specs.Prelude.{ℕ, ◌+◌, ◌*◌, List, [], ◌∷◌, length, Option, Some, None}
use Rattle.std.specs.Option.{option_map, option_and_then}
use Rattle.spv_types.specs.declared.forms.Form.{Form}
use Rattle.spv_types.specs.declared.forms.Form.TheVariants.{Void, Bool as Boolean, Int, Vector, Array, Runtime, Struct, Pointer, Function}
use Rattle.spv_types.specs.declared.forms.Member.{Member}
use Rattle.spv_types.specs.Types.{Types, in_first}

-- the sum of two numbers where both are there
abbrev pub added : Option ℕ → Option ℕ → Option ℕ
added a b = option_and_then (λ n. option_map (λ m. n + m) b) a

-- the leaves of some members together
unfoldable pub members_cells : (ℕ → Option ℕ) → List Member → Option ℕ
members_cells cells [] = Some 0
members_cells cells (m ∷ ms) = added (cells m.ty) (members_cells cells ms)

-- the leaves of a form, where cells gives those of its parts
abbrev pub cells_step : (ℕ → Option ℕ) → Form → Option ℕ
cells_step cells Void = Some 0
cells_step cells Boolean = Some 1
cells_step cells (Int width sign) = Some 1
cells_step cells (Vector component count) = option_map (λ c. c * count) (cells component)
cells_step cells (Array element length stride) = option_and_then (λ n. option_map (λ c. c * n) (cells element)) length
cells_step cells (Runtime element stride) = None
cells_step cells (Struct members block) = members_cells cells members
cells_step cells (Pointer class target) = Some 1
cells_step cells (Function returns parameters) = Some 0

-- the leaves of the type with an id, where it is among the first n types
unfoldable pub cells_among : Types → ℕ → ℕ → Option ℕ
cells_among = in_first None cells_step

-- The leaves of the type with an id. There is no number for a type with a runtime array or with a length that is not set.
unfoldable pub cells_of : Types → ℕ → Option ℕ
cells_of ts id = cells_among ts (length ts) id
