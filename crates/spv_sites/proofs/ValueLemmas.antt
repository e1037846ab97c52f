-- What ids stand for by their types, and what constants do.
use Rattle.std.proofs.Common.{◌≡◌, ◌∙◌, ℕ, true, Option, Some, None, IsSome, refl, sym, ap, subst}
use Rattle.std.specs.Option.{is_some, option_and_then, option_map}
use Rattle.spv_base.specs.Entries.{reads}
use Rattle.spv_base.specs.declared.values.Value.{Value}
use Rattle.spv_valid.specs.Below.spv_consts.specs.Table.{Row}
use Rattle.spv_valid.specs.Below.spv_consts.specs.Trees.{tree_of}
use Rattle.spv_index.specs.Operands.{id_operand}
use Rattle.spv_valid.specs.Acceptance.{Accepted, IsAccepted}
use Rattle.spv_valid.specs.Meanings.{meaning_of}
use Rattle.spv_valid.specs.Validity.{IsValid}
use Rattle.spv_valid.specs.declared.meanings.Meaning.TheVariants.{Constant}
use Rattle.spv_operands.specs.Values.{value_of}
use Rattle.spv_operands.proofs.Exports.{constant_value}
use Rattle.spv_state.specs.Below.spv_results.proofs.Exports.{sound_types}
use Rattle.spv_state.specs.State.{depth_of}
use Rattle.spv_sites.specs.Fits.{IsOfType}
use Rattle.spv_sites.specs.Sites.{IsSite, Site, accepted, value_with, values}
use Rattle.spv_sites.proofs.OperandLemmas.{PointersHaveShapes, ValuesHaveShapes, id_shape}
use Rattle.spv_sites.proofs.PointerLemmas.{shaped_level}

-- what an id stands for has the id's type
pub id_typed : (plains : ValuesHaveShapes) (pointers : PointersHaveShapes) (x : Site) → ∥ IsAccepted (accepted x) ∥₁ → ∥ IsValid (accepted x) ∥₁ → ∥ IsSite x ∥₁ → (id : ℕ) (v : Value) → value_with x id ≡ Some v
    → IsOfType (accepted x) id v
id_typed plains pointers x accepts valid site id v value ty type =
    shaped_level (accepted x) (sound_types (accepted x) valid) ty v (id_shape plains pointers x id ty v (accepted x) refl accepts site value type)

-- ---- constants

-- constants are what their ids stand for
abbrev pub ConstantsAreMeant : Type 0
ConstantsAreMeant = (a : Accepted) (id : ℕ) (r : Row) → ∥ IsAccepted a ∥₁ → reads id a.constants ≡ Some r → meaning_of a.insts id ≡ Some Constant

-- a constant is there
pub constant_there : (x : Site) (m : Accepted) (n id : ℕ) (o : Option Value) → ConstantsAreMeant → m ≡ accepted x → ∥ IsAccepted m ∥₁ → id_operand x.inst n ≡ Some id → o ≡ option_map (tree_of m.types) (reads id m.constants)
    → is_some o ≡ true → IsSome (values x n)
constant_there x m n id None meant same accepts named is some = absurd (cc)
constant_there x m n id (Some v) meant same accepts named is some =
    let a = accepted x in
    let stands : Some v ≡ value_of a x.frame (depth_of x.state x.inv) id =
    constant_value a x.frame (depth_of x.state x.inv) id v (λ (r : Row) h. meant a id r (subst (λ (b : Accepted). ∥ IsAccepted b ∥₁) same accepts) h) (is ∙ ap (λ (b : Accepted). option_map (tree_of b.types) (reads id b.constants)) same) in
    let whole : values x n ≡ Some v = ap (option_and_then (value_of a x.frame (depth_of x.state x.inv))) named ∙ sym stands in
    ap is_some whole
