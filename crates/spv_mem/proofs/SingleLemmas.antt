-- Leaves that are exchanged by where they lie.
use Rattle.std.proofs.Common.{◌≡◌, ℕ, true, false, List, Option, Some, None, refl, sym, subst}
use Rattle.std.specs.Option.{MatchOption, option_and_then}
use Rattle.std.proofs.Math.Logic.{∥∥₁_elim, ∥∥₁_map}
use Rattle.std.proofs.Props.{props}
use Rattle.std.specs.Coded.{codes}
use Rattle.spv_base.specs.Entries.{reads}
use Rattle.spv_base.specs.Parts.{part_at, with_part}
use Rattle.spv_base.specs.Variables.{Roots, root_id}
use Rattle.spv_base.specs.declared.values.Pointer.{Pointer}
use Rattle.spv_base.specs.declared.values.Root.{Root}
use Rattle.spv_base.specs.declared.values.Root.TheVariants.{Shared, Private, Local}
use Rattle.spv_base.specs.declared.values.Value.{Value}
use Rattle.spv_values.specs.Places.{IsRowAt}
use Rattle.spv_mem.specs.declared.places.Place.{Place}
use Rattle.spv_mem.specs.Memory.{Held, IsMemory, MayStore, load_of, root_value, roots_in}
use Rattle.spv_mem.specs.Roots.{IsAt}
use Rattle.spv_mem.specs.Singles.{IsLeafFor, LeafAt, LeafIn, LeafLevel, LiesIn, NamesRow}
use Rattle.spv_mem.specs.Targets.{Exchanges, Fits, MayBePut, elements_in}
use Rattle.spv_mem.proofs.ElementLemmas.{elements_stay}

-- ---- one variable

pub leaf_row : (leaf : ℕ) (path : List ℕ) (u v : Value) → ∥ IsLeafFor leaf path u v ∥₁ → IsRowAt v path leaf 1
leaf_row leaf path u v is = record {
  there = ∥∥₁_elim is (hlevel props) (λ (h : IsLeafFor leaf path u v). h.row.there);
  within = ∥∥₁_elim is (hlevel props) (λ (h : IsLeafFor leaf path u v). h.row.within);
  row = λ w e. ∥∥₁_elim is (hlevel (props, codes)) (λ (h : IsLeafFor leaf path u v). h.row.row w e);
  written = λ x. ∥∥₁_elim is (hlevel (props, codes)) (λ (h : IsLeafFor leaf path u v). h.row.written x);
}

pub leaf_keeps : (leaf : ℕ) (path : List ℕ) (u v : Value) → ∥ IsLeafFor leaf path u v ∥₁ → elements_in (with_part v path u) ≡ elements_in v
leaf_keeps leaf path u v is = ∥∥₁_elim is (hlevel props) (λ (h : IsLeafFor leaf path u v). h.elements)

pub exchanged : (v new u w : Value) (path : List ℕ) → part_at v path ≡ Some w → new ≡ with_part v path u → Exchanges v path u new w true
exchanged v new u w path is made =
    subst (λ (o : Option Value). MatchOption o ((true ≡ false) × (new ≡ v) × (w ≡ u)) (λ x. (true ≡ true) × (new ≡ with_part v path u) × (w ≡ x))) (sym is) (refl, made, refl)

-- ---- the variable at a place

pub leaf_at : (id : ℕ) (es : Roots) (k leaf : ℕ) (path : List ℕ) (u v : Value) (a : IsAt id k es) → v ≡ a.value → ∥ LeafIn id es leaf path u ∥₁ → ∥ IsLeafFor leaf path u v ∥₁
leaf_at id es k leaf path u v a same may = ∥∥₁_map may (λ (h : LeafIn id es leaf path u). subst (IsLeafFor leaf path u) (sym same) (h a.value a.is))

-- ---- in a memory

leaf_in : (m : Held) (i : ℕ) (r : Root) (es : Roots) (leaf : ℕ) (path : List ℕ) (u : Value) → IsMemory m → NamesRow m i (record { root = r; path = path }) leaf 1
    → MayStore m i (record { root = r; path = path }) u → roots_in m i r ≡ Some es → LeafIn (root_id r) es leaf path u
leaf_in m i r es leaf path u h names may at v is =
    let value : root_value m i r ≡ Some v = rw at is in
    let same : names.value ≡ v = let e = names.is in cc in
    let row : IsRowAt v path leaf 1 = subst (λ (x : Value). IsRowAt x path leaf 1) same names.row in
    let w = h.variables i r es at (root_id r) v is in
    let fits : Fits m.types w.type v = record { sound = h.sound; may = h.targets (root_id r) w.type w.named; shape = w.shape } in
    let put : MayBePut m.types w.type v path u = may w.type v w.named value in
    record { row = row; elements = elements_stay m.types w.type v path u leaf 1 row ∣ fits ∣₁ ∣ put ∣₁ }

-- what is told of the memory, of its fields
pub record Told (m : Held) (i : ℕ) (r : Root) (leaf : ℕ) (path : List ℕ) (u : Value) : Type 0 where
  pub memory : IsMemory m
  pub names : NamesRow m i (record { root = r; path = path }) leaf 1
  pub may : MayStore m i (record { root = r; path = path }) u

pub told : (m now : Held) (i : ℕ) (r q : Root) (leaf : ℕ) (path : List ℕ) (u : Value) → m ≡ now → q ≡ r → ∥ IsMemory m ∥₁ → ∥ NamesRow now i (record { root = q; path = path }) leaf 1 ∥₁
    → ∥ MayStore now i (record { root = q; path = path }) u ∥₁ → ∥ Told m i r leaf path u ∥₁
told m now i r q leaf path u v root is names may =
    subst (λ (x : Root). ∥ Told m i x leaf path u ∥₁) root
    (∥∥₁_elim is (hlevel props) (λ (h : IsMemory m).
    ∥∥₁_elim (subst (λ (x : Held). ∥ NamesRow x i (record { root = q; path = path }) leaf 1 ∥₁) (sym v) names) (hlevel props) (λ (n : NamesRow m i (record { root = q; path = path }) leaf 1).
    ∥∥₁_map (subst (λ (x : Held). ∥ MayStore x i (record { root = q; path = path }) u ∥₁) (sym v) may) (λ (a : MayStore m i (record { root = q; path = path }) u). record { memory = h; names = n; may = a }))))

pub shared_leaf : (m : Held) (i id k leaf n : ℕ) (path : List ℕ) (u : Value) → k ≡ id → n ≡ leaf → ∥ Told m i (Shared id) leaf path u ∥₁ → ∥ LeafIn k m.shared n path u ∥₁
shared_leaf m i id k leaf n path u e f t =
    subst (λ (x : ℕ). ∥ LeafIn x m.shared n path u ∥₁) (sym e) (subst (λ (x : ℕ). ∥ LeafIn id m.shared x path u ∥₁) (sym f) (∥∥₁_map t (λ (h : Told m i (Shared id) leaf path u). go h)))
  where
    go : Told m i (Shared id) leaf path u → LeafIn id m.shared leaf path u
    go h = leaf_in m i (Shared id) m.shared leaf path u h.memory h.names h.may refl

pub private_leaf : (m : Held) (i id k leaf n : ℕ) (path : List ℕ) (u : Value) → k ≡ id → n ≡ leaf → ∥ Told m i (Private id) leaf path u ∥₁ → ∥ LeafAt k m.privates i n path u ∥₁
private_leaf m i id k leaf n path u e f t =
    subst (λ (x : ℕ). ∥ LeafAt x m.privates i n path u ∥₁) (sym e) (subst (λ (x : ℕ). ∥ LeafAt id m.privates i x path u ∥₁) (sym f) (∥∥₁_map t (λ (h : Told m i (Private id) leaf path u). go h)))
  where
    go : Told m i (Private id) leaf path u → LeafAt id m.privates i leaf path u
    go h es at = leaf_in m i (Private id) es leaf path u h.memory h.names h.may at

pub local_leaf : (m : Held) (i depth id k leaf n : ℕ) (path : List ℕ) (u : Value) → k ≡ id → n ≡ leaf → ∥ Told m i (Local depth id) leaf path u ∥₁ → ∥ LeafLevel k m.locals i depth n path u ∥₁
local_leaf m i depth id k leaf n path u e f t =
    subst (λ (x : ℕ). ∥ LeafLevel x m.locals i depth n path u ∥₁) (sym e) (subst (λ (x : ℕ). ∥ LeafLevel id m.locals i depth x path u ∥₁) (sym f) (∥∥₁_map t (λ (h : Told m i (Local depth id) leaf path u). go h)))
  where
    go : Told m i (Local depth id) leaf path u → LeafLevel id m.locals i depth leaf path u
    go h l at es e = leaf_in m i (Local depth id) es leaf path u h.memory h.names h.may (rw at e)

-- ---- where a part lies

-- in the list of its variable, by where it lies in the variable
pub lies_in : (id : ℕ) (es : Roots) (path : List ℕ) (v : Value) (r : Option Place) → reads id es ≡ Some v → MatchOption r (part_at v path ≡ None) (λ p. IsRowAt v path p.start p.len)
    → MatchOption r (option_and_then (λ w. part_at w path) (reads id es) ≡ None) (λ p. LiesIn id es path p.start p.len)
lies_in id es path v None is h = rw is h
lies_in id es path v (Some p) is h = record { value = v; is = is; row = h }

-- in the memory, by where it lies in the list of its variable
pub names_row : (m : Held) (i : ℕ) (p : Pointer) (es : Roots) (r : Option Place) → roots_in m i p.root ≡ Some es
    → MatchOption r (option_and_then (λ v. part_at v p.path) (reads (root_id p.root) es) ≡ None) (λ at. LiesIn (root_id p.root) es p.path at.start at.len)
    → MatchOption r (load_of m i p ≡ None) (λ at. NamesRow m i p at.start at.len)
names_row m i p es None at h = rw at h
names_row m i p es (Some place) at h = record { value = h.value; is = rw at h.is; row = h.row }
