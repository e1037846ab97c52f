-- Which types variables have: data of one number of leaves, or a block that ends in a runtime array of such.
use Rattle.std.specs.Prelude.{◌≡◌, ℕ, ◌&&◌, ◌||◌, not, nat_le, if◌then◌else◌, Bool, true, false, List, [], ◌∷◌, length, slice_get, Option, Some, None}
use Rattle.std.specs.Option.{MatchOption, is_some, option_map_or}
use Rattle.spv_base.specs.Parts.{part_at, parts_in, with_part}
use Rattle.spv_base.specs.declared.values.Value.{Value, out-Value}
use Rattle.spv_types.specs.declared.forms.Form.{Form}
use Rattle.spv_types.specs.declared.forms.Form.TheVariants.{Runtime, Struct}
use Rattle.spv_types.specs.declared.forms.Member.{Member}
use Rattle.spv_types.specs.Cells.{cells_of}
use Rattle.spv_types.specs.Laws.{AreSound}
use Rattle.spv_types.specs.Rows.{no_roots}
use Rattle.spv_types.specs.Rules.{is_runtime}
use Rattle.spv_types.specs.Shapes.{HasShape, reached_type}
use Rattle.spv_types.specs.Types.{Types, form_of}

-- the values of a type have one number of leaves
abbrev pub is_counted : Types → ℕ → Bool
is_counted ts id = is_some (cells_of ts id)

-- a runtime array of such values
abbrev pub is_open_array : Types → Option Form → Bool
is_open_array ts (Some (Runtime element stride)) = is_counted ts element
is_open_array ts _ = false

-- the last of some members is such an array, and the others have numbers of leaves
abbrev pub end_open : Types → List Member → Bool
end_open ts [] = false
end_open ts (m ∷ []) = is_open_array ts (form_of ts m.ty)
end_open ts (m ∷ n ∷ ms) = is_counted ts m.ty && end_open ts (n ∷ ms)

abbrev pub is_open_block : Types → Option Form → Bool
is_open_block ts (Some (Struct members block)) = end_open ts members
is_open_block ts _ = false

-- a variable may have the type
abbrev pub may_be_target : Types → ℕ → Bool
may_be_target ts id = is_counted ts id || is_open_block ts (form_of ts id)

-- ---- the elements of a runtime array

-- how many values a list has; none for a scalar or a pointer
abbrev pub count_in : Value → ℕ
count_in v = option_map_or length (parts_in (out-Value v)) 0

abbrev pub last_of : List Value → Option Value
last_of [] = None
last_of (v ∷ []) = Some v
last_of (v ∷ u ∷ vs) = last_of (u ∷ vs)

-- how many values the last part of a value has: the elements of the runtime array, where a block ends in one
abbrev pub elements_in : Value → ℕ
elements_in v = option_map_or (λ vs. option_map_or count_in (last_of vs) 0) (parts_in (out-Value v)) 0

-- ---- values of variables

-- a value that a variable of a type may have
pub record Fits (ts : Types) (id : ℕ) (v : Value) : Type 0 where
  pub sound : AreSound ts
  pub may : may_be_target ts id ≡ true
  pub shape : HasShape ts no_roots id v

-- a value that may be put where a path leads in a value of a type, if it leads anywhere: of the part's type, which has no
-- runtime array in it
abbrev pub MayBePut : Types → ℕ → Value → List ℕ → Value → Type 0
MayBePut ts id v path u = (t : ℕ) (w : Value) → reached_type ts id path ≡ Some t → part_at v path ≡ Some w → (is_counted ts t ≡ true) × HasShape ts no_roots t u

-- ---- paths into the runtime array

-- member k of a block is a runtime array
abbrev pub is_array_at : Types → Option Form → ℕ → Bool
is_array_at ts (Some (Struct members block)) k = option_map_or (λ (m : Member). is_runtime (form_of ts m.ty)) (slice_get members k) false
is_array_at ts _ k = false

-- the index of an element of the runtime array, where a path leads into it
abbrev pub element_index : Types → ℕ → List ℕ → Option ℕ
element_index ts id [] = None
element_index ts id (k ∷ []) = None
element_index ts id (k ∷ i ∷ path) = if is_array_at ts (form_of ts id) k then Some i else None

-- a path leads into the runtime array at the end of a block, which has n elements, and past its end
abbrev pub is_past : Types → ℕ → ℕ → List ℕ → Bool
is_past ts n id path = not (is_counted ts id) && option_map_or (λ i. nat_le n i) (element_index ts id path) false

-- ---- exchanges

-- the part of v that a path names is exchanged with u, where there is such a part; what comes of v and of u, and whether it is there
abbrev pub Exchanges : Value → List ℕ → Value → Value → Value → Bool → Type 0
Exchanges v path u new handed there =
    MatchOption (part_at v path) ((there ≡ false) × (new ≡ v) × (handed ≡ u)) (λ w. (there ≡ true) × (new ≡ with_part v path u) × (handed ≡ w))
