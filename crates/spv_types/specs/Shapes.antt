-- The shape of a value at a type: scalars of its width, one part per component, element or member, and pointers to where
-- their type says.
use Rattle.std.specs.Prelude.{◌≡◌, ℕ, zero, suc, List, [], ◌∷◌, length, slice_get, Option, Some, None}
use Rattle.std.specs.Bool.{MatchBool}
use Rattle.std.specs.Option.{IsSomeAnd, MatchOption, option_map, option_and_then}
use Rattle.std.specs.List.{All, AllZip}
use Rattle.spv_base.specs.Cell.{IsCell, Cell}
use Rattle.spv_base.specs.Parts.{parts_in}
use Rattle.spv_base.specs.declared.values.Pointer.{Pointer as Reference}
use Rattle.spv_base.specs.declared.values.Root.{Root}
use Rattle.spv_base.specs.declared.values.Value.{Value, out-Value}
use Rattle.spv_base.specs.declared.values.Value.TheOpen.{Value-F}
use Rattle.spv_base.specs.Options.{holds}
use Rattle.spv_types.specs.declared.forms.Form.{Form}
use Rattle.spv_types.specs.declared.forms.Form.TheVariants.{Void, Bool as Boolean, Int, Vector, Array, Runtime, Struct, Pointer, Function}
use Rattle.spv_types.specs.declared.forms.Member.{Member}
use Rattle.spv_types.specs.Types.{Types, form_of, number_of}

-- the type of part i of a form; an index of a row may be any number
abbrev pub part_type : Form → ℕ → Option ℕ
part_type (Vector component count) i = Some component
part_type (Array element length stride) i = Some element
part_type (Runtime element stride) i = Some element
part_type (Struct members block) i = option_map (λ m. m.ty) (slice_get members i)
part_type _ i = None

-- the type that a path reaches from the type with an id
unfoldable pub reached_type : Types → ℕ → List ℕ → Option ℕ
reached_type ts id [] = Some id
reached_type ts id (i ∷ path) = option_and_then (λ t. reached_type ts t path) (option_and_then (λ f. part_type f i) (form_of ts id))

-- a pointer leads to a target: from the type of its root, along its path
abbrev pub LeadsTo : Types → (Root → Option ℕ) → Reference → ℕ → Type 0
LeadsTo ts roots p target = option_and_then (λ t. reached_type ts t p.path) (roots p.root) ≡ Some target

-- the scalar, and the pointer, that a value is
abbrev pub scalar_in : Value-F Value → Option Cell
scalar_in (Value-F.Scalar c) = Some c
scalar_in _ = None

abbrev pub pointer_in : Value-F Value → Option Reference
pointer_in (Value-F.Ptr p) = Some p
pointer_in _ = None

-- a scalar of a width, whose number fits it, and is 0 where it is undefined
abbrev pub IsScalar : ℕ → Value → Type 0
IsScalar width v = IsSomeAnd (scalar_in (out-Value v)) (λ c. (c.width ≡ width) × IsCell c)

-- a value of a form, where shape says which values its parts have
abbrev pub shape_step : Types → (Root → Option ℕ) → (ℕ → Value → Type 0) → Form → Value → Type 0
shape_step ts roots shape Void v = ⊥
shape_step ts roots shape Boolean v = IsScalar 1 v
shape_step ts roots shape (Int width sign) v = IsScalar width v
shape_step ts roots shape (Vector component count) v = IsSomeAnd (parts_in (out-Value v)) (λ vs. (length vs ≡ count) × All (shape component) vs)
shape_step ts roots shape (Array element n stride) v = IsSomeAnd (parts_in (out-Value v)) (λ vs. (Some (length vs) ≡ n) × All (shape element) vs)
shape_step ts roots shape (Runtime element stride) v = IsSomeAnd (parts_in (out-Value v)) (λ vs. All (shape element) vs)
shape_step ts roots shape (Struct members block) v = IsSomeAnd (parts_in (out-Value v)) (λ vs. AllZip (λ (m : Member). shape m.ty) members vs)
shape_step ts roots shape (Pointer class target) v = IsSomeAnd (pointer_in (out-Value v)) (λ p. LeadsTo ts roots p target)
shape_step ts roots shape (Function returns parameters) v = ⊥

-- the shape of the type with an id, where it is among the first n types
unfoldable pub HasShapeAmong : Types → (Root → Option ℕ) → ℕ → ℕ → Value → Type 0
HasShapeAmong ts roots zero id v = ⊥
HasShapeAmong ts roots (suc n) id v =
    MatchBool (holds n (number_of ts id)) (MatchOption (form_of ts id) ⊥ (λ f. shape_step ts roots (HasShapeAmong ts roots n) f v)) (HasShapeAmong ts roots n id v)

-- a value has the shape of the type with an id, where roots gives the type of each variable that pointers lead into
unfoldable pub HasShape : Types → (Root → Option ℕ) → ℕ → Value → Type 0
HasShape ts roots id v = HasShapeAmong ts roots (length ts) id v
