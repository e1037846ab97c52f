-- Values of scalar and vector types are their lanes.
use Rattle.std.proofs.Common.{◌≡◌, ◌∙◌, ℕ, suc, ◌≤◌, ◌&&◌, nat_le, Bool, true, false, List, [], ◌∷◌, ◌++◌, Option, Some, None, map, length, refl, sym, ap, subst, arith}
use Rattle.std.proofs.Math.ListN.{length-map}
use Rattle.std.proofs.lemmas.Bool.Decides.{nat_tests}
use Rattle.std.proofs.lemmas.List.Elements.{All-cons, All-head, All-map, All-nil, All-tail, All-weaker}
use Rattle.std.specs.List.{All, flat_map}
use Rattle.std.specs.Option.{IsSomeAnd, option_and_then}
use Rattle.spv_base.specs.Cell.{IsCell, Cell, HasWidth}
use Rattle.spv_base.specs.Parts.{parts_in}
use Rattle.spv_base.specs.declared.values.Root.{Root}
use Rattle.spv_base.specs.declared.values.Value.{Value, Scalar, List as Many, out-Value}
use Rattle.spv_base.specs.declared.values.Value.TheOpen.{Value-F}
use Rattle.spv_base.proofs.Exports.{out_many, out_scalar}
use Rattle.spv_types.specs.declared.forms.Form.{Form}
use Rattle.spv_types.specs.declared.forms.Form.TheVariants.{Void, Bool as Boolean, Int, Vector, Array, Runtime, Struct, Pointer, Function}
use Rattle.spv_types.specs.Types.{Types, form_of}
use Rattle.spv_types.specs.Laws.{AreSound}
use Rattle.spv_types.specs.Rows.{leaves}
use Rattle.spv_types.specs.Rules.{is_scalar}
use Rattle.spv_types.specs.Shapes.{HasShape, IsScalar, scalar_in, shape_step}
use Rattle.spv_types.proofs.Exports.{many_is, many_by, many_row, scalar_by, scalar_row, shapes_are_by_forms}
use Rattle.spv_effects.specs.LaneTypes.{HasLaneType, IsLaneForm, scalar_width}
use Rattle.spv_effects.specs.Lanes.{AreLanes, AreScalars, of_lanes}

-- a value that is n scalars of a width
pub record IsOfLanes (w n : ℕ) (v : Value) : Type 0 where
  pub scalars : AreScalars w n (leaves v)
  pub value : of_lanes (leaves v) ≡ v

pub scalars_are_lanes : (w n : ℕ) (cs : List Cell) → AreScalars w n cs → AreLanes w n cs
scalars_are_lanes w n cs s = record { count = s.count; widths = All-weaker (HasWidth w) (λ (c : Cell). c.width ≡ w) (λ c h. h.0) cs s.fit }

-- ---- from a shape

record IsOneLane (w : ℕ) (v : Value) : Type 0 where
  lane : Cell
  is : v ≡ Scalar lane
  row : leaves v ≡ lane ∷ []
  fits : HasWidth w lane

one_lane : (w : ℕ) (v : Value) → IsScalar w v → IsOneLane w v
one_lane w v h = go (out-Value v) refl h
  where
    go : (o : Value-F Value) → out-Value v ≡ o → IsSomeAnd (scalar_in o) (λ c. (c.width ≡ w) × IsCell c) → IsOneLane w v
    go (Value-F.Scalar c) e s = record { lane = c; is = scalar_by v c e; row = scalar_row v c e; fits = s }
    go (Value-F.List vs) e s = absurd s
    go (Value-F.Ptr p) e s = absurd s

scalar_lanes : (w : ℕ) (v : Value) → IsScalar w v → IsOfLanes w 1 v
unfolding of_lanes
scalar_lanes w v h =
    let s = one_lane w v h in
    let P : Cell → Type 0 = HasWidth w in
    record {
      scalars = record { count = ap length s.row; fit = subst (All P) (sym s.row) (All-cons P s.lane [] s.fits (All-nil P)) };
      value = ap of_lanes s.row ∙ sym s.is;
    }

record AreOneLane (w : ℕ) (vs : List Value) : Type 0 where
  values : map Scalar (flat_map leaves vs) ≡ vs
  count : length (flat_map leaves vs) ≡ length vs
  fit : All (HasWidth w) (flat_map leaves vs)

one_lanes : (w : ℕ) (shape : Value → Type 0) (vs : List Value) → ((v : Value) → shape v → IsScalar w v) → All shape vs → AreOneLane w vs
one_lanes w shape [] each all = record { values = refl; count = refl; fit = All-nil (HasWidth w) }
one_lanes w shape (v ∷ vs) each all =
    let s = one_lane w v (each v (All-head shape v vs all)) in
    let rest = one_lanes w shape vs each (All-tail shape v vs all) in
    let P : Cell → Type 0 = HasWidth w in
    let row : flat_map leaves (v ∷ vs) ≡ s.lane ∷ flat_map leaves vs = ap (λ (t : List Cell). t ++ flat_map leaves vs) s.row in
    record {
      values = ap (map Scalar) row ∙ ap (λ (t : List Value). Scalar s.lane ∷ t) rest.values ∙ ap (λ (u : Value). u ∷ vs) (sym s.is);
      count = ap length row ∙ ap suc rest.count;
      fit = subst (All P) (sym row) (All-cons P s.lane (flat_map leaves vs) s.fits rest.fit);
    }

pub several : (cs : List Cell) → 2 ≤ length cs → of_lanes cs ≡ Many (map Scalar cs)
unfolding of_lanes
several [] h = absurd (omega arith)
several (c ∷ []) h = absurd (omega arith)
several (c ∷ (d ∷ cs)) h = refl

vector_lanes : (w n : ℕ) (shape : Value → Type 0) (v : Value) → 2 ≤ n → ((u : Value) → shape u → IsScalar w u) → IsSomeAnd (parts_in (out-Value v)) (λ vs. (length vs ≡ n) × All shape vs) → IsOfLanes w n v
vector_lanes w n shape v two each h =
    let many = many_is (λ (vs : List Value). (length vs ≡ n) × All shape vs) v h in
    let vs : List Value = many.0 in
    let m = one_lanes w shape vs each many.2.1 in
    let row : leaves v ≡ flat_map leaves vs = many_row v vs many.1 in
    let count : length (flat_map leaves vs) ≡ n = m.count ∙ many.2.0 in
    let long : 2 ≤ length (flat_map leaves vs) = omega arith in
    record {
      scalars = record { count = ap length row ∙ count; fit = subst (All (HasWidth w)) (sym row) m.fit };
      value = ap of_lanes row ∙ several (flat_map leaves vs) long ∙ ap Many m.values ∙ sym (many_by v vs many.1);
    }

-- a value of a form with a scalar width
scalar_form : (ts : Types) (roots : Root → Option ℕ) (shape : ℕ → Value → Type 0) (f : Form) (w : ℕ) (v : Value) → scalar_width f ≡ Some w → shape_step ts roots shape f v → IsScalar w v
scalar_form ts roots shape Void w v e h = cc
scalar_form ts roots shape Boolean w v e h = let same : 1 ≡ w = cc in subst (λ (k : ℕ). IsScalar k v) same h
scalar_form ts roots shape (Int width sign) w v e h = let same : width ≡ w = cc in subst (λ (k : ℕ). IsScalar k v) same h
scalar_form ts roots shape (Vector component count) w v e h = cc
scalar_form ts roots shape (Array element n stride) w v e h = cc
scalar_form ts roots shape (Runtime element stride) w v e h = cc
scalar_form ts roots shape (Struct members block) w v e h = cc
scalar_form ts roots shape (Pointer class target) w v e h = cc
scalar_form ts roots shape (Function returns parameters) w v e h = cc

scalar_type : (ts : Types) (roots : Root → Option ℕ) → AreSound ts → (id w : ℕ) → option_and_then scalar_width (form_of ts id) ≡ Some w → (v : Value) → HasShape ts roots id v → IsScalar w v
scalar_type ts roots sound id w e v h = go (form_of ts id) refl e
  where
    go : (o : Option Form) → form_of ts id ≡ o → option_and_then scalar_width o ≡ Some w → IsScalar w v
    go None g k = cc
    go (Some f) g k = scalar_form ts roots (HasShape ts roots) f w v k ((shapes_are_by_forms ts roots sound id f v g).0 h)

pub two_at_least : (b : Bool) (n : ℕ) → (b && (nat_le 2 n && nat_le n 4)) ≡ true → 2 ≤ n
two_at_least false n h = cc
two_at_least true n h = go (nat_le 2 n) refl h
  where
    go : (t : Bool) → nat_le 2 n ≡ t → (t && nat_le n 4) ≡ true → 2 ≤ n
    go false e k = cc
    go true e k = grind (arith, nat_tests)

lanes_by : (ts : Types) (roots : Root → Option ℕ) → AreSound ts → (id : ℕ) (f : Form) → form_of ts id ≡ Some f → (w n : ℕ) (v : Value) → IsLaneForm ts f w n → shape_step ts roots (HasShape ts roots) f v → IsOfLanes w n v
lanes_by ts roots sound id Void is w n v l h = absurd l
lanes_by ts roots sound id Boolean is w n v l h = rw (l.0, l.1) (scalar_lanes 1 v h)
lanes_by ts roots sound id (Int width sign) is w n v l h = rw (l.0, l.1) (scalar_lanes width v h)
lanes_by ts roots sound id (Vector component count) is w n v l h =
    let two : 2 ≤ count = two_at_least (is_scalar (form_of ts component)) count (sound.kept id (Vector component count) is) in
    rw l.0 (vector_lanes w count (HasShape ts roots component) v two (scalar_type ts roots sound component w l.1) h)
lanes_by ts roots sound id (Array element k stride) is w n v l h = absurd l
lanes_by ts roots sound id (Runtime element stride) is w n v l h = absurd l
lanes_by ts roots sound id (Struct members block) is w n v l h = absurd l
lanes_by ts roots sound id (Pointer class target) is w n v l h = absurd l
lanes_by ts roots sound id (Function returns parameters) is w n v l h = absurd l

pub value_lanes : (ts : Types) (roots : Root → Option ℕ) (id w n : ℕ) (v : Value) → AreSound ts → HasShape ts roots id v → HasLaneType ts id w n → IsOfLanes w n v
value_lanes ts roots id w n v sound h t = lanes_by ts roots sound id t.form t.is w n v t.lanes ((shapes_are_by_forms ts roots sound id t.form v t.is).0 h)

-- ---- to a shape

pub is_scalar_of : (w : ℕ) (c : Cell) → HasWidth w c → IsScalar w (Scalar c)
is_scalar_of w c h = rw (out_scalar c) h

scalar_shape : (ts : Types) (roots : Root → Option ℕ) (shape : ℕ → Value → Type 0) (f : Form) (w : ℕ) (v : Value) → scalar_width f ≡ Some w → IsScalar w v → shape_step ts roots shape f v
scalar_shape ts roots shape Void w v e h = cc
scalar_shape ts roots shape Boolean w v e h = let same : w ≡ 1 = cc in subst (λ (k : ℕ). IsScalar k v) same h
scalar_shape ts roots shape (Int width sign) w v e h = let same : w ≡ width = cc in subst (λ (k : ℕ). IsScalar k v) same h
scalar_shape ts roots shape (Vector component count) w v e h = cc
scalar_shape ts roots shape (Array element n stride) w v e h = cc
scalar_shape ts roots shape (Runtime element stride) w v e h = cc
scalar_shape ts roots shape (Struct members block) w v e h = cc
scalar_shape ts roots shape (Pointer class target) w v e h = cc
scalar_shape ts roots shape (Function returns parameters) w v e h = cc

scalar_has : (ts : Types) (roots : Root → Option ℕ) → AreSound ts → (id w : ℕ) → option_and_then scalar_width (form_of ts id) ≡ Some w → (v : Value) → IsScalar w v → HasShape ts roots id v
scalar_has ts roots sound id w e v h = go (form_of ts id) refl e
  where
    go : (o : Option Form) → form_of ts id ≡ o → option_and_then scalar_width o ≡ Some w → HasShape ts roots id v
    go None g k = cc
    go (Some f) g k = (shapes_are_by_forms ts roots sound id f v g).1 (scalar_shape ts roots (HasShape ts roots) f w v k h)

many_have : (w : ℕ) (shape : Value → Type 0) (cs : List Cell) → ((v : Value) → IsScalar w v → shape v) → All (HasWidth w) cs → All shape (map Scalar cs)
many_have w shape cs each fit = All-map shape Scalar cs (All-weaker (HasWidth w) (λ (c : Cell). shape (Scalar c)) (λ c h. each (Scalar c) (is_scalar_of w c h)) cs fit)

one_has : (w n : ℕ) (cs : List Cell) → n ≡ 1 → AreScalars w n cs → IsScalar w (of_lanes cs)
unfolding of_lanes
one_has w n [] e s = let h = s.count in absurd (omega arith)
one_has w n (c ∷ []) e s = is_scalar_of w c (All-head (HasWidth w) c [] s.fit)
one_has w n (c ∷ (d ∷ cs)) e s = let h = s.count in absurd (omega arith)

shape_by : (ts : Types) (roots : Root → Option ℕ) → AreSound ts → (id : ℕ) (f : Form) → form_of ts id ≡ Some f → (w n : ℕ) (cs : List Cell) → IsLaneForm ts f w n → AreScalars w n cs → shape_step ts roots (HasShape ts roots) f (of_lanes cs)
shape_by ts roots sound id Void is w n cs l s = absurd l
shape_by ts roots sound id Boolean is w n cs l s = subst (λ (k : ℕ). IsScalar k (of_lanes cs)) l.0 (one_has w n cs l.1 s)
shape_by ts roots sound id (Int width sign) is w n cs l s = subst (λ (k : ℕ). IsScalar k (of_lanes cs)) l.0 (one_has w n cs l.1 s)
shape_by ts roots sound id (Vector component count) is w n cs l s =
    let two : 2 ≤ count = two_at_least (is_scalar (form_of ts component)) count (sound.kept id (Vector component count) is) in
    let long : length cs ≡ count = s.count ∙ l.0 in
    let more : 2 ≤ length cs = omega arith in
    rw (several cs more, out_many (map Scalar cs)) (length-map cs Scalar ∙ long, many_have w (HasShape ts roots component) cs (scalar_has ts roots sound component w l.1) s.fit)
shape_by ts roots sound id (Array element k stride) is w n cs l s = absurd l
shape_by ts roots sound id (Runtime element stride) is w n cs l s = absurd l
shape_by ts roots sound id (Struct members block) is w n cs l s = absurd l
shape_by ts roots sound id (Pointer class target) is w n cs l s = absurd l
shape_by ts roots sound id (Function returns parameters) is w n cs l s = absurd l

pub lanes_shape : (ts : Types) (roots : Root → Option ℕ) (id w n : ℕ) (cs : List Cell) → AreSound ts → HasLaneType ts id w n → AreScalars w n cs → HasShape ts roots id (of_lanes cs)
lanes_shape ts roots id w n cs sound t s =
    (shapes_are_by_forms ts roots sound id t.form (of_lanes cs) t.is).1 (shape_by ts roots sound id t.form t.is w n cs t.lanes s)
