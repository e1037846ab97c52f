-- What variables begin with has the shapes of their types; an initializer has its leaves.
use Rattle.std.proofs.Common.{◌≡◌, ◌∙◌, ℕ, ◌==◌, Bool, true, false, List, [], ◌∷◌, Option, Some, None, Result, Ok, Err, IfOk, refl, sym, ap, subst}
use Rattle.std.specs.Prelude.{if◌then◌else◌}
use Rattle.std.specs.List.{AllByRecursion}
use Rattle.std.specs.Option.{option_and_then}
use Rattle.std.specs.Coded.{codes}
use Rattle.std.proofs.Math.Logic.{∥∥₁_elim, ∥∥₁_map}
use Rattle.std.proofs.Props.{props}
use Rattle.spv_base.specs.Entries.{reads}
use Rattle.spv_base.specs.declared.instructions.Inst.{Inst}
use Rattle.spv_base.specs.declared.values.Value.{Value}
use Rattle.spv_types.specs.Laws.{AreSound}
use Rattle.spv_types.specs.Rows.{leaves, no_roots}
use Rattle.spv_types.specs.Shapes.{HasShape}
use Rattle.spv_types.specs.Types.{Types}
use Rattle.spv_consts.specs.Laws.{IsConstantOf, IsRowAt}
use Rattle.spv_consts.specs.Table.{Constants, Row}
use Rattle.spv_consts.specs.Trees.{tree_of}
use Rattle.spv_valid.specs.Acceptance.{Accepted}
use Rattle.spv_valid.specs.Validity.{IsValid}
use Rattle.spv_start.specs.Blocks.{value_in}
use Rattle.spv_mem.specs.Blanks.{blank_of}
use Rattle.spv_mem.proofs.Exports.{blank_shape}
use Rattle.spv_initial.specs.Values.{Suits, if_of_type, initializer_of}
use Rattle.spv_initial.specs.declared.variables.Declared.{Declared}
use Rattle.spv_initial.proofs.ShapeLemmas.{AreBytes, read_shape}
use Rattle.spv_initial.proofs.VariableLemmas.{data_of, target_of}
use Rattle.std.proofs.lemmas.Bool.{eqb-true}

pub if_ok : {T E : Type 0} {P Q : T → Type 0} (result : Result T E) → ((x : T) → P x → Q x) → IfOk result P → IfOk result Q
if_ok (Ok x) f h = f x h
if_ok (Err e) f h = tt

-- ---- the undefined value

pub undefined_suits : (ts : Types) (d : Declared) → Suits ts d (blank_of ts 0 d.target)
undefined_suits ts d sound holds = ∥∥₁_map sound (λ (s : AreSound ts). blank_shape ts 0 s d.target (target_of ts d.class d.target holds) (data_of ts d.class d.target holds))

-- ---- what is read from bytes

pub read_suits : (ts : Types) (d : Declared) (bytes : List ℕ) (size : ℕ) → AreBytes bytes → Suits ts d (value_in ts bytes size d.target)
read_suits ts d bytes size small sound holds =
    ∥∥₁_map sound (λ (s : AreSound ts). read_shape ts bytes size small s d.target (target_of ts d.class d.target holds) (data_of ts d.class d.target holds))

-- ---- constants

row_is : (ts : Types) (insts : List Inst) (cs : Constants) (id : ℕ) (r : Row) → AllByRecursion (IsConstantOf ts insts no_roots) cs → reads id cs ≡ Some r → IsRowAt ts no_roots r.ty r.cells
row_is ts insts [] id r all is = absurd (cc)
row_is ts insts (c ∷ cs) id r (first, rest) is = by_test (c.0 == id) (λ g. row_is ts insts cs id r rest g) is
  where
    by_test : (b : Bool) → (reads id cs ≡ Some r → IsRowAt ts no_roots r.ty r.cells) → (if b then Some c.1 else reads id cs) ≡ Some r → IsRowAt ts no_roots r.ty r.cells
    by_test true more g = let same : c.1 ≡ r = cc in subst (λ (x : Row). IsRowAt ts no_roots x.ty x.cells) same first.row
    by_test false more g = more g

-- the initializer is a constant, of the variable's type
initializer_read : (a : Accepted) (d : Declared) (r : Row) → initializer_of a d ≡ Some r → (id : ℕ) × (reads id a.constants ≡ Some r) × (r.ty ≡ d.target)
initializer_read a d r h = by_id d.initializer h
  where
    by_type : (id : ℕ) (q : Row) (b : Bool) → (q.ty == d.target) ≡ b → reads id a.constants ≡ Some q → (if b then Some q else None) ≡ Some r → (id : ℕ) × (reads id a.constants ≡ Some r) × (r.ty ≡ d.target)
    by_type id q true e read g =
        let same : q ≡ r = cc in
        (id, read ∙ ap Some same, ap (λ (x : Row). x.ty) (sym same) ∙ eqb-true q.ty d.target e)
    by_type id q false e read g = absurd (cc)

    by_row : (id : ℕ) (o : Option Row) → reads id a.constants ≡ o → option_and_then (if_of_type d.target) o ≡ Some r → (id : ℕ) × (reads id a.constants ≡ Some r) × (r.ty ≡ d.target)
    by_row id None read g = absurd (cc)
    by_row id (Some q) read g = by_type id q (q.ty == d.target) refl read g

    by_id : (o : Option ℕ) → option_and_then (if_of_type d.target) (option_and_then (λ (id : ℕ). reads id a.constants) o) ≡ Some r → (id : ℕ) × (reads id a.constants ≡ Some r) × (r.ty ≡ d.target)
    by_id None g = absurd (cc)
    by_id (Some id) g = by_row id (reads id a.constants) refl g

constant_row : (a : Accepted) (d : Declared) (r : Row) → IsValid a → initializer_of a d ≡ Some r → IsRowAt a.types no_roots r.ty r.cells
constant_row a d r valid h =
    let read = initializer_read a d r h in
    row_is a.types a.insts a.constants read.0 r (valid.shapes no_roots) read.1

pub initializer_leaves : (a : Accepted) (d : Declared) (r : Row) → ∥ IsValid a ∥₁ → Some r ≡ initializer_of a d → leaves (tree_of a.types r) ≡ r.cells
initializer_leaves a d r valid h = ∥∥₁_elim valid (hlevel (props, codes)) (λ (v : IsValid a). (constant_row a d r v (sym h)).leaves_are)

pub constant_shape : (a : Accepted) (d : Declared) (r : Row) → IsValid a → initializer_of a d ≡ Some r → HasShape a.types no_roots d.target (tree_of a.types r)
constant_shape a d r valid h = subst (λ (ty : ℕ). HasShape a.types no_roots ty (tree_of a.types r)) (initializer_read a d r h).2 (constant_row a d r valid h).shape

pub initializer_suits : (a : Accepted) (d : Declared) (r : Row) (v : Value) → ∥ IsValid a ∥₁ → Some r ≡ initializer_of a d → v ≡ tree_of a.types r → Suits a.types d v
initializer_suits a d r v valid h is sound holds = ∥∥₁_map valid (λ (k : IsValid a). subst (HasShape a.types no_roots d.target) (sym is) (constant_shape a d r k (sym h)))
