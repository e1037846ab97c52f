-- Where a part of a block begins: behind the Offset of each member, the ArrayStride of each array times the index, and the
-- bytes of the components of each vector that its path steps over.
use Rattle.std.specs.Prelude.{◌≡◌, ℕ, ◌<◌, ◌+◌, ◌*◌, List, [], ◌∷◌, slice_get, Option, Some, None}
use Rattle.std.specs.Option.{option_map, option_and_then}
use Rattle.spv_types.specs.declared.forms.Form.{Form}
use Rattle.spv_types.specs.declared.forms.Form.TheVariants.{Vector, Array, Runtime, Struct}
use Rattle.spv_types.specs.declared.forms.Member.{Member}
use Rattle.spv_types.specs.Types.{Types, form_of}
use Rattle.spv_types.specs.Leaves.{leaf_of}
use Rattle.spv_types.specs.Places.{scalar_bytes}
use Rattle.spv_types.specs.Shapes.{reached_type}

-- the bytes before part i of a form, and the type of that part
abbrev pub step_over : Types → Form → ℕ → Option (ℕ × ℕ)
step_over ts (Vector component count) i = Some (i * scalar_bytes (form_of ts component), component)
step_over ts (Array element length stride) i = option_map (λ s. (i * s, element)) stride
step_over ts (Runtime element stride) i = option_map (λ s. (i * s, element)) stride
step_over ts (Struct members block) i = option_and_then (λ (m : Member). option_map (λ (o : ℕ). (o, m.ty)) m.offset) (slice_get members i)
step_over ts _ i = None

-- the first byte of the part that a path names; none where a member has no Offset or an array no ArrayStride
unfoldable pub offset_of : Types → ℕ → List ℕ → Option ℕ
offset_of ts id [] = Some 0
offset_of ts id (i ∷ path) = option_and_then (λ p. option_map (λ n. p.0 + n) (offset_of ts p.1 path)) (option_and_then (λ f. step_over ts f i) (form_of ts id))

-- a leaf with a number is one of so many, or of any number of them
abbrev pub IsOneOf : Option ℕ → ℕ → Type 0
IsOneOf None leaf = Unit {0}
IsOneOf (Some n) leaf = leaf < n

-- a part of a type: its path, the leaves and the bytes before it, and its type
pub record IsPart (ts : Types) (id : ℕ) (path : List ℕ) (leaf offset part : ℕ) : Type 0 where
  pub leaves : leaf_of ts id path ≡ Some leaf
  pub bytes : offset_of ts id path ≡ Some offset
  pub type_is : reached_type ts id path ≡ Some part
