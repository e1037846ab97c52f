-- A part has the shape of its type, and a value keeps its shape where a part of that shape is put.
use Rattle.std.proofs.Common.{◌≡◌, ◌∙◌, ℕ, zero, suc, List, [], ◌∷◌, Option, Some, None, length-set, refl, sym, ap, subst, slice_get, slice_set}
use Rattle.std.specs.Option.{option_map, option_and_then}
use Rattle.std.specs.List.{All, AllZip}
use Rattle.std.proofs.lemmas.List.Elements.{All-cons, All-head, All-tail}
use Rattle.spv_base.specs.Parts.{part_at, with_part}
use Rattle.spv_base.specs.declared.values.Root.{Root}
use Rattle.spv_base.specs.declared.values.Value.{Value, List as Many, out-Value}
use Rattle.spv_base.specs.declared.values.Value.TheOpen.{Value-F}
use Rattle.spv_base.proofs.Exports.{out_many}
use Rattle.spv_types.specs.declared.forms.Form.{Form}
use Rattle.spv_types.specs.declared.forms.Form.TheVariants.{Void, Bool as Boolean, Int, Vector, Array, Runtime, Struct, Pointer, Function}
use Rattle.spv_types.specs.declared.forms.Member.{Member}
use Rattle.spv_types.specs.Types.{Types, form_of}
use Rattle.spv_types.specs.Laws.{AreSound}
use Rattle.spv_types.specs.Shapes.{HasShape, part_type, reached_type, shape_step}
use Rattle.spv_types.proofs.ShapeLemmas.{shapes_are_by_forms}
use Rattle.spv_types.proofs.RowPlaces.{changed, has_part}

-- ---- lists

all_at : (P : Value → Type 0) (vs : List Value) (i : ℕ) (u w : Value) → All P vs → slice_get vs i ≡ Some u → P u × (P w → All P (slice_set vs i w))
all_at P [] i u w all h = cc
all_at P (v ∷ vs) zero u w all h = let e : v ≡ u = cc in (subst P e (All-head P v vs all), λ has. All-cons P w vs has (All-tail P v vs all))
all_at P (v ∷ vs) (suc i) u w all h =
    let rest = all_at P vs i u w (All-tail P v vs all) h in
    (rest.0, λ has. All-cons P v (slice_set vs i w) (All-head P v vs all) (rest.1 has))

members_at : (shape : ℕ → Value → Type 0) (ms : List Member) (vs : List Value) (i part : ℕ) (u w : Value) → AllZip (λ (m : Member). shape m.ty) ms vs
    → option_map (λ (m : Member). m.ty) (slice_get ms i) ≡ Some part → slice_get vs i ≡ Some u
    → shape part u × (shape part w → AllZip (λ (m : Member). shape m.ty) ms (slice_set vs i w))
members_at shape [] vs i part u w all g h = cc
members_at shape (m ∷ ms) [] i part u w all g h = cc
members_at shape (m ∷ ms) (v ∷ vs) zero part u w all g h =
    let e : v ≡ u = cc in
    let f : m.ty ≡ part = cc in
    (subst (λ (k : ℕ). shape k u) f (subst (shape m.ty) e all.0), λ has. (subst (λ (k : ℕ). shape k w) (sym f) has, all.1))
members_at shape (m ∷ ms) (v ∷ vs) (suc i) part u w all g h =
    let rest = members_at shape ms vs i part u w all.1 g h in
    (rest.0, λ has. (all.0, rest.1 has))

-- ---- one level

-- the part has its type's shape, and another part of that shape keeps the whole's
step_at : (ts : Types) (roots : Root → Option ℕ) (shape : ℕ → Value → Type 0) (f : Form) (v : Value) (i part : ℕ) (vs : List Value) (u w : Value)
    → shape_step ts roots shape f v → part_type f i ≡ Some part → out-Value v ≡ Value-F.List vs → slice_get vs i ≡ Some u
    → shape part u × (shape part w → shape_step ts roots shape f (Many (slice_set vs i w)))
step_at ts roots shape Void v i part vs u w s h e g = absurd s
step_at ts roots shape Boolean v i part vs u w s h e g = cc
step_at ts roots shape (Int width sign) v i part vs u w s h e g = cc
step_at ts roots shape (Vector component count) v i part vs u w s h e g =
    let has = rw e at s in
    let f : component ≡ part = cc in
    let all = all_at (shape component) vs i u w has.1 g in
    (subst (λ (k : ℕ). shape k u) f all.0, λ is. rw (out_many (slice_set vs i w)) (length-set vs i w ∙ has.0, all.1 (subst (λ (k : ℕ). shape k w) (sym f) is)))
step_at ts roots shape (Array element n stride) v i part vs u w s h e g =
    let has = rw e at s in
    let f : element ≡ part = cc in
    let all = all_at (shape element) vs i u w has.1 g in
    (subst (λ (k : ℕ). shape k u) f all.0, λ is. rw (out_many (slice_set vs i w)) (ap Some (length-set vs i w) ∙ has.0, all.1 (subst (λ (k : ℕ). shape k w) (sym f) is)))
step_at ts roots shape (Runtime element stride) v i part vs u w s h e g =
    let has = rw e at s in
    let f : element ≡ part = cc in
    let all = all_at (shape element) vs i u w has g in
    (subst (λ (k : ℕ). shape k u) f all.0, λ is. rw (out_many (slice_set vs i w)) (all.1 (subst (λ (k : ℕ). shape k w) (sym f) is)))
step_at ts roots shape (Struct members block) v i part vs u w s h e g =
    let has = rw e at s in
    let all = members_at shape members vs i part u w has h g in
    (all.0, λ is. rw (out_many (slice_set vs i w)) (all.1 is))
step_at ts roots shape (Pointer class target) v i part vs u w s h e g = cc
step_at ts roots shape (Function returns parameters) v i part vs u w s h e g = cc

-- ---- paths

pub record ReachedBy (ts : Types) (id i : ℕ) (path : List ℕ) (target : ℕ) : Type 0 where
  pub form : Form
  pub part : ℕ
  pub is : form_of ts id ≡ Some form
  pub at : part_type form i ≡ Some part
  pub rest : reached_type ts part path ≡ Some target

pub reached_by : (ts : Types) (id i : ℕ) (path : List ℕ) (target : ℕ) → reached_type ts id (i ∷ path) ≡ Some target → ReachedBy ts id i path target
unfolding reached_type
reached_by ts id i path target h = formed (form_of ts id) refl h
  where
    part : (f : Form) → form_of ts id ≡ Some f → (o : Option ℕ) → part_type f i ≡ o → option_and_then (λ t. reached_type ts t path) o ≡ Some target → ReachedBy ts id i path target
    part f e None g h = cc
    part f e (Some p) g h = record { form = f; part = p; is = e; at = g; rest = h }

    formed : (o : Option Form) → form_of ts id ≡ o → option_and_then (λ t. reached_type ts t path) (option_and_then (λ f. part_type f i) o) ≡ Some target → ReachedBy ts id i path target
    formed None e h = cc
    formed (Some f) e h = part f e (part_type f i) refl h

pub shapes_keep : (ts : Types) (roots : Root → Option ℕ) → AreSound ts → (path : List ℕ) (id target : ℕ) (v w u : Value)
    → HasShape ts roots id v → reached_type ts id path ≡ Some target → part_at v path ≡ Some w
    → HasShape ts roots target w × (HasShape ts roots target u → HasShape ts roots id (with_part v path u))
unfolding reached_type
shapes_keep ts roots sound [] id target v w u h r g =
    let e : id ≡ target = cc in
    let same : v ≡ w = cc in
    (subst (λ (k : ℕ). HasShape ts roots k w) e (subst (HasShape ts roots id) same h), λ has. subst (λ (k : ℕ). HasShape ts roots k u) (sym e) has)
shapes_keep ts roots sound (i ∷ path) id target v w u h r g =
    let l = reached_by ts id i path target r in
    let p = has_part v i path w g in
    let shape : shape_step ts roots (HasShape ts roots) l.form v = (shapes_are_by_forms ts roots sound id l.form v l.is).0 h in
    let new : Value = with_part p.part path u in
    let step = step_at ts roots (HasShape ts roots) l.form v i l.part p.values p.part new shape l.at p.is p.at in
    let inner = shapes_keep ts roots sound path l.part target p.part w u step.0 l.rest p.rest in
    (inner.0, λ has. rw (changed v i path p.values p.part u p.is p.at) ((shapes_are_by_forms ts roots sound id l.form (Many (slice_set p.values i new)) l.is).1 (step.1 (inner.1 has))))
