-- What is constructed of parts has the shape of the result's type.
use Rattle.std.proofs.Common.{◌≡◌, ◌∙◌, ℕ, suc, ◌+◌, ◌<◌, ◌==◌, Bool, true, false, List, [], ◌∷◌, ◌++◌, length, length-append, slice_get, Option, Some, None, refl, sym, ap, subst, arith}
use Rattle.std.specs.Prelude.{if◌then◌else◌}
use Rattle.std.specs.List.{All, AllZip, flat_map, sum_by}
use Rattle.std.specs.Option.{is_some, option_and_then, option_map_or}
use Rattle.std.proofs.lemmas.Bool.{eqb-true}
use Rattle.std.proofs.lemmas.List.Elements.{All-append, All-cons, All-head, All-nil, All-tail}
use Rattle.std.proofs.lemmas.List.Sums.{sum_by-cons}
use Rattle.spv_base.specs.Cell.{Cell, HasWidth}
use Rattle.spv_base.specs.declared.instructions.Operand.{Operand}
use Rattle.spv_base.specs.declared.values.Root.{Root}
use Rattle.spv_base.specs.declared.values.Value.{Value, List as Many}
use Rattle.spv_base.proofs.Exports.{is_many}
use Rattle.spv_types.specs.declared.forms.Form.{Form}
use Rattle.spv_types.specs.declared.forms.Form.TheVariants.{Void, Bool as Boolean, Int, Vector, Array, Runtime, Struct, Pointer, Function}
use Rattle.spv_types.specs.declared.forms.Member.{Member}
use Rattle.spv_types.specs.declared.queries.Components.{Components}
use Rattle.spv_types.specs.Laws.{AreSound}
use Rattle.spv_types.specs.Queries.{components_in}
use Rattle.spv_types.specs.Rows.{leaves}
use Rattle.spv_types.specs.Shapes.{HasShape, shape_step}
use Rattle.spv_types.specs.Types.{form_of}
use Rattle.spv_types.proofs.Exports.{leaves_many, shapes_are_by_forms}
use Rattle.spv_effects.specs.Composites.{joined_value, leaves_in}
use Rattle.spv_effects.specs.LaneTypes.{HasLaneType, scalar_width}
use Rattle.spv_effects.specs.Lanes.{AreScalars}
use Rattle.spv_effects.proofs.Exports.{leaves_of_lanes, lanes_shape}
use Rattle.spv_valid.specs.Below.spv_bodies.specs.Composites.{AreParts, given}
use Rattle.spv_valid.specs.Below.spv_bodies.specs.Context.{Known, type_in}
use Rattle.spv_results.specs.Results.{constructed}
use Rattle.spv_results.proofs.VectorTypes.{lanes_are, vector_type}

-- ---- values one for each operand

-- each value has the shape of its operand's type
abbrev pub Have : Known → (ℕ → Value → Type 0) → List Operand → List Value → Type 0
Have k shape os vs = AllZip (λ (o : Operand) (v : Value). (ty : ℕ) → type_in k o ≡ Some ty → shape ty v) os vs

pub zipped : (k : Known) (shape : ℕ → Value → Type 0) (os : List Operand) (vs : List Value) → length vs ≡ length os
    → ((n : ℕ) (v : Value) → slice_get vs n ≡ Some v → (ty : ℕ) → option_and_then (type_in k) (slice_get os n) ≡ Some ty → shape ty v) → Have k shape os vs
zipped k shape [] [] long each = tt
zipped k shape [] (v ∷ vs) long each = absurd (omega arith)
zipped k shape (o ∷ os) [] long each = absurd (omega arith)
zipped k shape (o ∷ os) (v ∷ vs) long each = (each 0 v refl, zipped k shape os vs (omega arith) (λ n u at. each (suc n) u at))

elements_have : (k : Known) (shape : ℕ → Value → Type 0) (element : ℕ) (os : List Operand) (vs : List Value) → All (λ o. type_in k o ≡ Some element) os → Have k shape os vs
    → (length vs ≡ length os) × All (shape element) vs
elements_have k shape element [] [] all have = (refl, All-nil (shape element))
elements_have k shape element [] (v ∷ vs) all have = absurd have
elements_have k shape element (o ∷ os) [] all have = absurd have
elements_have k shape element (o ∷ os) (v ∷ vs) all have =
    let P : Operand → Type 0 = λ o. type_in k o ≡ Some element in
    let rest = elements_have k shape element os vs (All-tail P o os all) have.1 in
    (ap suc rest.0, All-cons (shape element) v vs (have.0 element (All-head P o os all)) rest.1)

members_have : (k : Known) (shape : ℕ → Value → Type 0) (ms : List Member) (os : List Operand) (vs : List Value) → AllZip (λ (m : Member) (o : Operand). type_in k o ≡ Some m.ty) ms os → Have k shape os vs
    → AllZip (λ (m : Member). shape m.ty) ms vs
members_have k shape [] [] [] all have = tt
members_have k shape [] [] (v ∷ vs) all have = absurd have
members_have k shape [] (o ∷ os) vs all have = absurd all
members_have k shape (m ∷ ms) [] vs all have = absurd all
members_have k shape (m ∷ ms) (o ∷ os) [] all have = absurd have
members_have k shape (m ∷ ms) (o ∷ os) (v ∷ vs) all have = (have.0 m.ty all.0, members_have k shape ms os vs all.1 have.1)

-- ---- components

append_lanes : (w n m : ℕ) (cs ds : List Cell) → AreScalars w n cs → AreScalars w m ds → AreScalars w (n + m) (cs ++ ds)
append_lanes w n m cs ds s r = record {
  count = length-append cs ds ∙ ap (λ (i : ℕ). i + length ds) s.count ∙ ap (λ (i : ℕ). n + i) r.count;
  fit = All-append (HasWidth w) cs ds s.fit r.fit;
}

no_lanes : (w : ℕ) → AreScalars w 0 []
no_lanes w = record { count = refl; fit = All-nil (HasWidth w) }

-- the components of a vector type
components_are : (o : Option Form) (c : Components) → components_in o ≡ Some c → o ≡ Some (Vector c.ty c.count)
components_are o c h = grind arith

module _ (k : Known) (roots : Root → Option ℕ) (sound : AreSound k.types) (component width : ℕ) (is : option_and_then scalar_width (form_of k.types component) ≡ Some width) (one : HasLaneType k.types component width 1) where
  -- a constituent that gives components has as many lanes of their width
  constituent : (o : Operand) (v : Value) → 0 < given k component (type_in k o) → ((ty : ℕ) → type_in k o ≡ Some ty → HasShape k.types roots ty v) → AreScalars width (given k component (type_in k o)) (leaves v)
  constituent o v some has = typed (type_in k o) refl some
    where
      vector : (ty : ℕ) → HasShape k.types roots ty v → (c : Components) → form_of k.types ty ≡ Some (Vector c.ty c.count) → (b : Bool) → (c.ty == component) ≡ b → 0 < (if b then c.count else 0)
          → AreScalars width (if b then c.count else 0) (leaves v)
      vector ty h c form false e some = absurd (omega arith)
      vector ty h c form true e some =
          let t = vector_type k.types ty c.ty c.count sound form in
          let kind : c.ty ≡ component = eqb-true c.ty component e in
          let widths : Some t.width ≡ Some width = sym t.is ∙ ap (λ (i : ℕ). option_and_then scalar_width (form_of k.types i)) kind ∙ is in
          let same : t.width ≡ width = cc in
          subst (λ (w : ℕ). AreScalars w c.count (leaves v)) same (lanes_are k.types roots ty t.width c.count v sound h t.whole)

      several : (ty : ℕ) → HasShape k.types roots ty v → (c : Option Components) → components_in (form_of k.types ty) ≡ c
          → 0 < option_map_or (λ (v : Components). if v.ty == component then v.count else 0) c 0
          → AreScalars width (option_map_or (λ (v : Components). if v.ty == component then v.count else 0) c 0) (leaves v)
      several ty h None e some = absurd (omega arith)
      several ty h (Some c) e some = vector ty h c (components_are (form_of k.types ty) c e) (c.ty == component) refl some

      kind : (ty : ℕ) → HasShape k.types roots ty v → (b : Bool) → (ty == component) ≡ b
          → 0 < (if b then 1 else option_map_or (λ (v : Components). if v.ty == component then v.count else 0) (components_in (form_of k.types ty)) 0)
          → AreScalars width (if b then 1 else option_map_or (λ (v : Components). if v.ty == component then v.count else 0) (components_in (form_of k.types ty)) 0) (leaves v)
      kind ty h true e some = lanes_are k.types roots component width 1 v sound (subst (λ (i : ℕ). HasShape k.types roots i v) (eqb-true ty component e) h) one
      kind ty h false e some = several ty h (components_in (form_of k.types ty)) refl some

      typed : (t : Option ℕ) → type_in k o ≡ t → 0 < given k component t → AreScalars width (given k component t) (leaves v)
      typed None e some = absurd (omega arith)
      typed (Some ty) e some = kind ty (has ty e) (ty == component) refl some

  constituents : (os : List Operand) (vs : List Value) → All (λ o. 0 < given k component (type_in k o)) os → Have k (HasShape k.types roots) os vs
      → AreScalars width (sum_by (λ o. given k component (type_in k o)) os) (flat_map leaves vs)
  constituents [] [] all have = no_lanes width
  constituents [] (v ∷ vs) all have = absurd have
  constituents (o ∷ os) [] all have = absurd have
  constituents (o ∷ os) (v ∷ vs) all have =
      let f : Operand → ℕ = λ o. given k component (type_in k o) in
      let P : Operand → Type 0 = λ o. 0 < f o in
      let first = constituent o v (All-head P o os all) have.0 in
      let rest = constituents os vs (All-tail P o os all) have.1 in
      subst (λ (n : ℕ). AreScalars width n (leaves v ++ flat_map leaves vs)) (sym (sum_by-cons f o os)) (append_lanes width (f o) (sum_by f os) (leaves v) (flat_map leaves vs) first rest)

-- ---- whole values

pub constructed_shape : (k : Known) (roots : Root → Option ℕ) → AreSound k.types → (id : ℕ) (os : List Operand) (vs : List Value) → AreParts k os (form_of k.types id) → Have k (HasShape k.types roots) os vs
    → HasShape k.types roots id (constructed (form_of k.types id) vs)
constructed_shape k roots sound id os vs parts have = go (form_of k.types id) refl parts
  where
    by_form : (f : Form) → form_of k.types id ≡ Some f → (v : Value) → shape_step k.types roots (HasShape k.types roots) f v → HasShape k.types roots id v
    by_form f e v s = (shapes_are_by_forms k.types roots sound id f v e).1 s

    go : (o : Option Form) → form_of k.types id ≡ o → AreParts k os o → HasShape k.types roots id (constructed o vs)
    go None e p = absurd p
    go (Some Void) e p = absurd p
    go (Some Boolean) e p = absurd p
    go (Some (Int width sign)) e p = absurd p
    go (Some (Vector component count)) e p =
        let t = vector_type k.types id component count sound e in
        let lanes = constituents k roots sound component t.width t.is t.one os vs p.0 have in
        lanes_shape k.types roots id t.width count (flat_map leaves vs) sound t.whole (subst (λ (n : ℕ). AreScalars t.width n (flat_map leaves vs)) (sym p.1) lanes)
    go (Some (Array element n stride)) e p =
        let each = elements_have k (HasShape k.types roots) element os vs p.1 have in
        by_form (Array element n stride) e (Many vs) (is_many (λ vs. (Some (length vs) ≡ n) × All (HasShape k.types roots element) vs) vs (ap Some each.0 ∙ sym p.0, each.1))
    go (Some (Runtime element stride)) e p = absurd p
    go (Some (Struct members block)) e p =
        by_form (Struct members block) e (Many vs) (is_many (λ vs. AllZip (λ (m : Member). HasShape k.types roots m.ty) members vs) vs (members_have k (HasShape k.types roots) members os vs p have))
    go (Some (Pointer class target)) e p = absurd p
    go (Some (Function returns parameters)) e p = absurd p

-- ---- how they are made

pub joined_count : (vs : List Value) → length (leaves (joined_value vs)) ≡ leaves_in vs
joined_count vs = ap length (leaves_of_lanes (flat_map leaves vs))

pub listed_count : (vs : List Value) → length (leaves (Many vs)) ≡ leaves_in vs
listed_count vs = ap length (leaves_many vs)

pub constructed_count : (o : Option Form) (vs : List Value) → length (leaves (constructed o vs)) ≡ leaves_in vs
constructed_count o vs = grind (arith, joined_count, listed_count)

pub constructed_by : (o : Option Form) (vs : List Value) → (if is_some (components_in o) then joined_value vs else Many vs) ≡ constructed o vs
constructed_by o vs = grind arith
