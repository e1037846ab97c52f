-- The leaves before the part of a type that a path names.
use Rattle.std.specs.Prelude.{ℕ, ◌+◌, ◌*◌, nat_lt, if◌then◌else◌, List, [], ◌∷◌, length, take, slice_get, Option, Some, None}
use Rattle.std.specs.Option.{option_map, option_and_then}
use Rattle.spv_types.specs.declared.forms.Form.{Form}
use Rattle.spv_types.specs.declared.forms.Form.TheVariants.{Void, Bool as Boolean, Int, Vector, Array, Runtime, Struct, Pointer, Function}
use Rattle.spv_types.specs.declared.forms.Member.{Member}
use Rattle.spv_types.specs.Types.{Types, form_of}
use Rattle.spv_types.specs.Cells.{cells_of, members_cells}

-- element i of a row: the leaves before it, and its type
abbrev pub element_part : (ℕ → Option ℕ) → ℕ → ℕ → Option (ℕ × ℕ)
element_part cells element i = option_map (λ c. (c * i, element)) (cells element)

-- member i: the leaves before it, and its type
abbrev pub member_part : (ℕ → Option ℕ) → List Member → ℕ → Option (ℕ × ℕ)
member_part cells members i = option_and_then (λ m. option_map (λ n. (n, m.ty)) (members_cells cells (take i members))) (slice_get members i)

-- part i of a form, where cells gives the leaves of types: the leaves before it, and its type
abbrev pub part_of : (ℕ → Option ℕ) → Form → ℕ → Option (ℕ × ℕ)
part_of cells Void i = None
part_of cells Boolean i = None
part_of cells (Int width sign) i = None
part_of cells (Vector component count) i = if nat_lt i count then element_part cells component i else None
part_of cells (Array element length stride) i = option_and_then (λ n. if nat_lt i n then element_part cells element i else None) length
part_of cells (Runtime element stride) i = element_part cells element i
part_of cells (Struct members block) i = member_part cells members i
part_of cells (Pointer class target) i = None
part_of cells (Function returns parameters) i = None

-- The leaves before the part that a path names; none where the path is not in the type.
unfoldable pub leaf_of : Types → ℕ → List ℕ → Option ℕ
leaf_of ts id [] = Some 0
leaf_of ts id (i ∷ path) = option_and_then (λ p. option_map (λ n. p.0 + n) (leaf_of ts p.1 path)) (option_and_then (λ f. part_of (cells_of ts) f i) (form_of ts id))
