-- The byte places of the leaves of a block: by the Offset of each member, the ArrayStride of each array, and the bytes of
-- the components of each vector.
use Rattle.std.specs.Prelude.{ℕ, ◌+◌, ◌-◌, ◌*◌, ◌/◌, ◌%◌, ◌==◌, ◌&&◌, true, nat_lt, ◌≤◌, if◌then◌else◌, List, [], ◌∷◌, length, take, Option, Some, None, unwrap_or}
use Rattle.std.specs.Option.{IsSomeAnd, option_map, option_map_or, option_and_then}
use Rattle.spv_types.specs.declared.forms.Form.{Form}
use Rattle.spv_types.specs.declared.forms.Form.TheVariants.{Void, Bool as Boolean, Int, Vector, Array, Runtime, Struct, Pointer, Function}
use Rattle.spv_types.specs.declared.forms.Member.{Member}
use Rattle.spv_types.specs.Types.{Types, form_of, in_first}
use Rattle.spv_types.specs.Cells.{cells_of, members_cells}

-- the bytes of a scalar; a Boolean has none in a block
abbrev pub scalar_bytes : Option Form → ℕ
scalar_bytes (Some (Int width sign)) = width / 8
scalar_bytes _ = 0

-- as many elements of a runtime array as fit so many bytes, of which it begins at a place
abbrev pub elements_in : ℕ → ℕ → Option ℕ → ℕ
elements_in size at None = 0
elements_in size at (Some stride) = (size - at) / stride

-- a scalar has one leaf, at its first byte
abbrev pub place_in_scalar : ℕ → Option ℕ
place_in_scalar leaf = if leaf == 0 then Some 0 else None

-- the number of the element in which a leaf lies, where elements have so many leaves and there are count, or any number
abbrev pub row_number : ℕ → Option ℕ → ℕ → Option ℕ
row_number cells count leaf = if nat_lt 0 cells && option_map_or (nat_lt (leaf / cells)) count true then Some (leaf / cells) else None

-- a leaf of a row of elements of so many leaves each, which begin a stride apart
abbrev pub place_in_row : ℕ → Option ℕ → ℕ → (ℕ → Option ℕ) → ℕ → Option ℕ
place_in_row cells count stride place leaf = option_and_then (λ k. option_map (λ n. k * stride + n) (place (leaf % cells))) (row_number cells count leaf)

-- a leaf of a member, which begins at its offset
abbrev pub place_in_member : (ℕ → ℕ → Option ℕ) → Member → ℕ → Option ℕ
place_in_member place m leaf = option_map (λ b. unwrap_or m.offset 0 + b) (place m.ty leaf)

-- A leaf is in a member or behind it, where the member has so many leaves. A runtime array has any number of them, and is the
-- last member.
abbrev pub place_by : ℕ → Option ℕ → (ℕ → Option ℕ) → Option ℕ → Option ℕ
place_by leaf here behind None = here
place_by leaf here behind (Some n) = if nat_lt leaf n then here else behind (leaf - n)

-- a leaf of some members
unfoldable pub place_in_members : (ℕ → Option ℕ) → (ℕ → ℕ → Option ℕ) → List Member → ℕ → Option ℕ
place_in_members cells place [] leaf = None
place_in_members cells place (m ∷ ms) leaf = place_by leaf (place_in_member place m leaf) (place_in_members cells place ms) (cells m.ty)

-- a member begins at a leaf or before it
abbrev pub BeginsBy : (ℕ → Option ℕ) → List Member → ℕ → ℕ → Type 0
BeginsBy cells ms i leaf = IsSomeAnd (members_cells cells (take i ms)) (λ n. n ≤ leaf)

-- a leaf of a row of elements of the type with an id
abbrev pub place_in_elements : Types → (ℕ → ℕ → Option ℕ) → ℕ → Option ℕ → ℕ → ℕ → Option ℕ
place_in_elements ts place element count stride leaf = option_and_then (λ cells. place_in_row cells count stride (place element) leaf) (cells_of ts element)

-- a leaf of a form, where place gives those of its parts
abbrev pub place_step : Types → (ℕ → ℕ → Option ℕ) → Form → ℕ → Option ℕ
place_step ts place Void leaf = None
place_step ts place Boolean leaf = place_in_scalar leaf
place_step ts place (Int width sign) leaf = place_in_scalar leaf
place_step ts place (Vector component count) leaf = place_in_elements ts place component (Some count) (scalar_bytes (form_of ts component)) leaf
place_step ts place (Array element length stride) leaf = option_and_then (λ n. place_in_elements ts place element (Some n) (unwrap_or stride 0) leaf) length
place_step ts place (Runtime element stride) leaf = place_in_elements ts place element None (unwrap_or stride 0) leaf
place_step ts place (Struct members block) leaf = place_in_members (cells_of ts) place members leaf
place_step ts place (Pointer class target) leaf = place_in_scalar leaf
place_step ts place (Function returns parameters) leaf = None

-- the byte place of a leaf of the type with an id, where it is among the first n types
unfoldable pub place_among : Types → ℕ → ℕ → ℕ → Option ℕ
place_among ts = in_first (λ leaf. None) (place_step ts) ts

-- the byte place of a leaf of the type with an id; none where it has no such leaf
unfoldable pub place_of : Types → ℕ → ℕ → Option ℕ
place_of ts id leaf = place_among ts (length ts) id leaf
