-- The place of a leaf of a part is the part's Offset and its place in the part.
use Rattle.std.proofs.Common.{◌≡◌, ◌∙◌, ℕ, zero, suc, ◌+◌, ◌-◌, ◌*◌, ◌/◌, ◌%◌, ◌<◌, ◌≤◌, Bool, true, false, List, [], ◌∷◌, Option, Some, None, length, refl, sym, ap, subst, arith, slice_get, take, drop, nat_lt}
use Rattle.spv_base.proofs.Exports.{guarded}
use Rattle.std.specs.Option.{option_map, option_map_or, option_and_then}
use Rattle.std.specs.Prelude.{if◌then◌else◌, unwrap_or}
use Rattle.std.proofs.Math.Nat.{mul-le-mul_left}
use Rattle.std.proofs.lemmas.Nat.{div-mul-add, mod-mul-add}
use Rattle.spv_types.specs.declared.forms.Form.{Form}
use Rattle.spv_types.specs.declared.forms.Form.TheVariants.{Void, Bool as Boolean, Int, Vector, Array, Runtime, Struct, Pointer, Function}
use Rattle.spv_types.specs.declared.forms.Member.{Member}
use Rattle.spv_types.specs.Types.{Types, form_at, form_of, number_of}
use Rattle.spv_types.specs.Cells.{added, cells_among, cells_of, cells_step, members_cells}
use Rattle.spv_types.specs.Leaves.{element_part, leaf_of, part_of}
use Rattle.spv_types.specs.Laws.{AreSound, IsAmong}
use Rattle.spv_types.specs.Offsets.{IsOneOf, offset_of, step_over}
use Rattle.spv_types.specs.Places.{place_among, place_by, place_in_elements, place_in_member, place_in_members, place_of, place_step, scalar_bytes}
use Rattle.spv_types.specs.Rules.{is_scalar}
use Rattle.spv_types.specs.Shapes.{part_type, reached_type}
use Rattle.spv_types.proofs.CellLemmas.{added_is}
use Rattle.spv_types.proofs.PlaceLemmas.{in_members_from, place_among_is}
use Rattle.spv_types.proofs.RowPlaces.{element_is, leaf_is, member_is}
use Rattle.spv_types.proofs.CountedLemmas.{cells_at, cells_whole}
use Rattle.spv_types.proofs.RowShapes.{reached_by}
use Rattle.spv_types.proofs.ShapeLemmas.{form_number}
use Rattle.spv_types.proofs.TypeLemmas.{found_is, number_form, number_lt}

-- ---- leaves of a part are leaves of the whole

row_inside : (a : Option ℕ) (c i n j : ℕ) → a ≡ Some c → i < n → IsOneOf a j → IsOneOf (option_map (λ c. c * n) a) (c * i + j)
row_inside None c i n j e l h = cc
row_inside (Some d) c i n j e l h =
    let same : d ≡ c = cc in
    let more : c * (i + 1) ≤ c * n = mul-le-mul_left c (omega arith) in
    rw same (omega (arith, more, h))

members_inside : (cells : ℕ → Option ℕ) (ms : List Member) (i n j : ℕ) (m : Member) → slice_get ms i ≡ Some m → members_cells cells (take i ms) ≡ Some n → IsOneOf (cells m.ty) j → IsOneOf (members_cells cells ms) (n + j)
unfolding members_cells
members_inside cells [] i n j m g h inside = cc
members_inside cells (k ∷ ms) zero n j m g h inside =
    let e : k ≡ m = cc in
    let z : n ≡ 0 = cc in
    first (cells k.ty) (members_cells cells ms) (rw (← e) at inside)
  where
    first : (a b : Option ℕ) → IsOneOf a j → IsOneOf (added a b) (n + j)
    first None b l = tt
    first (Some c) None l = tt
    first (Some c) (Some r) l = let z : n ≡ 0 = cc in omega (arith, l, z)
members_inside cells (k ∷ ms) (suc i) n j m g h inside =
    let sum = added_is (cells k.ty) (members_cells cells (take i ms)) n h in
    rw sum.2 (behind sum.0 sum.1 sum.4 (members_cells cells ms) (members_inside cells ms i sum.1 j m g sum.3 inside))
  where
    behind : (x y : ℕ) → n ≡ x + y → (b : Option ℕ) → IsOneOf b (y + j) → IsOneOf (added (Some x) b) (n + j)
    behind x y e None l = tt
    behind x y e (Some r) l = omega (arith, e, l)

elements_inside : (cells : ℕ → Option ℕ) (element i n before part j : ℕ) → i < n → element_part cells element i ≡ Some (before, part) → IsOneOf (cells part) j → IsOneOf (option_map (λ c. c * n) (cells element)) (before + j)
elements_inside cells element i n before part j l h inside =
    let at = element_is (cells element) element i before part h in
    let here : IsOneOf (cells element) j = rw at.3 inside in
    subst (λ (b : ℕ). IsOneOf (option_map (λ c. c * n) (cells element)) (b + j)) at.2 (row_inside (cells element) at.0 i n j at.1 l here)

part_inside : (cells : ℕ → Option ℕ) (f : Form) (i before part j : ℕ) → part_of cells f i ≡ Some (before, part) → IsOneOf (cells part) j → IsOneOf (cells_step cells f) (before + j)
part_inside cells Void i before part j h inside = cc
part_inside cells Boolean i before part j h inside = cc
part_inside cells (Int width sign) i before part j h inside = cc
part_inside cells (Vector component count) i before part j h inside =
    let at = guarded (nat_lt i count) (element_part cells component i) (before, part) h in
    let less : i < count = let t = at.0 in grind arith in
    elements_inside cells component i count before part j less at.1 inside
part_inside cells (Array element None stride) i before part j h inside = cc
part_inside cells (Array element (Some n) stride) i before part j h inside =
    let at = guarded (nat_lt i n) (element_part cells element i) (before, part) h in
    let less : i < n = let t = at.0 in grind arith in
    elements_inside cells element i n before part j less at.1 inside
part_inside cells (Runtime element stride) i before part j h inside = tt
part_inside cells (Struct members block) i before part j h inside =
    let m = member_is cells members i before part h in
    members_inside cells members i before j m.member m.found m.sum (rw m.ty inside)
part_inside cells (Pointer class target) i before part j h inside = cc
part_inside cells (Function returns parameters) i before part j h inside = cc

-- ---- the place of a leaf of a part

row_place : (ts : Types) (place : ℕ → ℕ → Option ℕ) (element : ℕ) (count : Option ℕ) (stride i c j : ℕ) → cells_of ts element ≡ Some c → j < c → option_map_or (nat_lt i) count true ≡ true
    → place_in_elements ts place element count stride (c * i + j) ≡ option_map (λ b. i * stride + b) (place element j)
row_place ts place element count stride i c j e l t =
    let turned : c * i + j ≡ i * c + j = omega arith in
    let quotient : (c * i + j) / c ≡ i = rw turned (div-mul-add i c j l) in
    let rest : (c * i + j) % c ≡ j = rw turned (mod-mul-add i c j l) in
    let some : nat_lt 0 c ≡ true = grind arith in
    rw (e, quotient, rest, some, t) refl

elements_place : (ts : Types) (place : ℕ → ℕ → Option ℕ) (element : ℕ) (count : Option ℕ) (stride i before part o j : ℕ) → element_part (cells_of ts) element i ≡ Some (before, part) → IsOneOf (cells_of ts part) j
    → option_map_or (nat_lt i) count true ≡ true → o ≡ i * stride → place_in_elements ts place element count stride (before + j) ≡ option_map (λ b. o + b) (place part j)
elements_place ts place element count stride i before part o j h inside t e =
    let at = element_is (cells_of ts element) element i before part h in
    let here : IsOneOf (cells_of ts element) j = rw at.3 inside in
    let less : j < at.0 = rw at.1 at here in
    let row = row_place ts place element count stride i at.0 j at.1 less t in
    ap (λ (b : ℕ). place_in_elements ts place element count stride (b + j)) (sym at.2) ∙ row ∙ ap (λ (k : ℕ). option_map (λ b. i * stride + b) (place k j)) at.3
    ∙ ap (λ (k : ℕ). option_map (λ b. k + b) (place part j)) (sym e)

abbrev some_pair : ℕ → ℕ → Option (ℕ × ℕ)
some_pair x y = Some (x, y)

first_is : (x y o p : ℕ) → some_pair x y ≡ some_pair o p → (o ≡ x) × (p ≡ y)
first_is x y o p h = let same : (x, y) ≡ (o, p) = cc in (sym (ap (λ (q : ℕ × ℕ). q.0) same), sym (ap (λ (q : ℕ × ℕ). q.1) same))

dropped : (ms : List Member) (i : ℕ) (m : Member) → slice_get ms i ≡ Some m → drop i ms ≡ m ∷ drop (suc i) ms
dropped [] i m h = cc
dropped (k ∷ ms) zero m h = let e : k ≡ m = cc in rw e refl
dropped (k ∷ ms) (suc i) m h = dropped ms i m h

inside_here : (a : Option ℕ) (j : ℕ) (here : Option ℕ) (behind : ℕ → Option ℕ) → IsOneOf a j → place_by j here behind a ≡ here
inside_here None j here behind l = refl
inside_here (Some k) j here behind l = let t : nat_lt j k ≡ true = grind arith in rw t refl

first_member : (cells : ℕ → Option ℕ) (place : ℕ → ℕ → Option ℕ) (m : Member) (ms : List Member) (j : ℕ) → IsOneOf (cells m.ty) j → place_in_members cells place (m ∷ ms) j ≡ place_in_member place m j
unfolding place_in_members
first_member cells place m ms j l = inside_here (cells m.ty) j (place_in_member place m j) (place_in_members cells place ms) l

offset_is : (a : Option ℕ) (ty o other : ℕ) → option_map {U = ℕ × ℕ} (λ (x : ℕ). (x, ty)) a ≡ Some (o, other) → a ≡ Some o
offset_is None ty o other h = cc
offset_is (Some x) ty o other h = ap Some (sym (first_is x ty o other h).0)

strides : (a : Option ℕ) (element i o other : ℕ) → option_map {U = ℕ × ℕ} (λ s. (i * s, element)) a ≡ Some (o, other) → o ≡ i * unwrap_or a 0
strides None element i o other h = cc
strides (Some s) element i o other h = (first_is (i * s) element o other h).0

part_place : (ts : Types) (place : ℕ → ℕ → Option ℕ) (f : Form) (i before part o other j : ℕ) → part_of (cells_of ts) f i ≡ Some (before, part) → step_over ts f i ≡ Some (o, other) → IsOneOf (cells_of ts part) j
    → place_step ts place f (before + j) ≡ option_map (λ b. o + b) (place part j)
part_place ts place Void i before part o other j h s inside = cc
part_place ts place Boolean i before part o other j h s inside = cc
part_place ts place (Int width sign) i before part o other j h s inside = cc
part_place ts place (Vector component count) i before part o other j h s inside =
    let at = guarded (nat_lt i count) (element_part (cells_of ts) component i) (before, part) h in
    elements_place ts place component (Some count) (scalar_bytes (form_of ts component)) i before part o j at.1 inside at.0 (first_is (i * scalar_bytes (form_of ts component)) component o other s).0
part_place ts place (Array element None stride) i before part o other j h s inside = cc
part_place ts place (Array element (Some n) stride) i before part o other j h s inside =
    let at = guarded (nat_lt i n) (element_part (cells_of ts) element i) (before, part) h in
    elements_place ts place element (Some n) (unwrap_or stride 0) i before part o j at.1 inside at.0 (strides stride element i o other s)
part_place ts place (Runtime element stride) i before part o other j h s inside =
    elements_place ts place element None (unwrap_or stride 0) i before part o j h inside refl (strides stride element i o other s)
part_place ts place (Struct members block) i before part o other j h s inside =
    let m = member_is (cells_of ts) members i before part h in
    let offset : m.member.offset ≡ Some o = offset_is m.member.offset m.member.ty o other (rw m.found at s) in
    let left : before + j - before ≡ j = omega arith in
    in_members_from (cells_of ts) place members i before (before + j) m.sum (omega arith)
    ∙ ap (place_in_members (cells_of ts) place (drop i members)) left
    ∙ ap (λ (ms : List Member). place_in_members (cells_of ts) place ms j) (dropped members i m.member m.found)
    ∙ first_member (cells_of ts) place m.member (drop (suc i) members) j (rw m.ty inside)
    ∙ ap (λ (a : Option ℕ). option_map (λ b. unwrap_or a 0 + b) (place m.member.ty j)) offset
    ∙ ap (λ (k : ℕ). option_map (λ b. o + b) (place k j)) m.ty
part_place ts place (Pointer class target) i before part o other j h s inside = cc
part_place ts place (Function returns parameters) i before part o other j h s inside = cc

-- ---- the types of parts

part_typed : (cells : ℕ → Option ℕ) (f : Form) (i before part : ℕ) → part_of cells f i ≡ Some (before, part) → part_type f i ≡ Some part
part_typed cells Void i before part h = cc
part_typed cells Boolean i before part h = cc
part_typed cells (Int width sign) i before part h = cc
part_typed cells (Vector component count) i before part h = ap Some (element_is (cells component) component i before part (guarded (nat_lt i count) (element_part cells component i) (before, part) h).1).3
part_typed cells (Array element None stride) i before part h = cc
part_typed cells (Array element (Some n) stride) i before part h = ap Some (element_is (cells element) element i before part (guarded (nat_lt i n) (element_part cells element i) (before, part) h).1).3
part_typed cells (Runtime element stride) i before part h = ap Some (element_is (cells element) element i before part h).3
part_typed cells (Struct members block) i before part h =
    let m = member_is cells members i before part h in
    rw m.found (ap Some m.ty)
part_typed cells (Pointer class target) i before part h = cc
part_typed cells (Function returns parameters) i before part h = cc

stride_typed : (a : Option ℕ) (element i o other : ℕ) → option_map {U = ℕ × ℕ} (λ s. (i * s, element)) a ≡ Some (o, other) → Some element ≡ Some other
stride_typed None element i o other h = cc
stride_typed (Some s) element i o other h = ap Some (sym (first_is (i * s) element o other h).1)

member_typed : (a : Option Member) (o other : ℕ) → option_and_then {U = ℕ × ℕ} (λ (m : Member). option_map {U = ℕ × ℕ} (λ (x : ℕ). (x, m.ty)) m.offset) a ≡ Some (o, other) → option_map (λ (m : Member). m.ty) a ≡ Some other
member_typed None o other h = cc
member_typed (Some m) o other h = go m.offset h
  where
    go : (b : Option ℕ) → option_map {U = ℕ × ℕ} (λ (x : ℕ). (x, m.ty)) b ≡ Some (o, other) → Some m.ty ≡ Some other
    go None h = cc
    go (Some x) h = ap Some (sym (first_is x m.ty o other h).1)

step_typed : (ts : Types) (f : Form) (i o other : ℕ) → step_over ts f i ≡ Some (o, other) → part_type f i ≡ Some other
step_typed ts Void i o other h = cc
step_typed ts Boolean i o other h = cc
step_typed ts (Int width sign) i o other h = cc
step_typed ts (Vector component count) i o other h = ap Some (sym (first_is (i * scalar_bytes (form_of ts component)) component o other h).1)
step_typed ts (Array element n stride) i o other h = stride_typed stride element i o other h
step_typed ts (Runtime element stride) i o other h = stride_typed stride element i o other h
step_typed ts (Struct members block) i o other h = member_typed (slice_get members i) o other h
step_typed ts (Pointer class target) i o other h = cc
step_typed ts (Function returns parameters) i o other h = cc

-- ---- by forms, where types are sound

pub members_alike : (c d : ℕ → Option ℕ) (ms : List Member) → ((k part : ℕ) → option_map (λ (m : Member). m.ty) (slice_get ms k) ≡ Some part → c part ≡ d part) → members_cells c ms ≡ members_cells d ms
unfolding members_cells
members_alike c d [] h = refl
members_alike c d (m ∷ ms) h = rw (h 0 m.ty refl, members_alike c d ms (λ k part is. h (suc k) part is)) refl

pub cells_alike : (c d : ℕ → Option ℕ) (f : Form) → ((index part : ℕ) → part_type f index ≡ Some part → c part ≡ d part) → cells_step c f ≡ cells_step d f
cells_alike c d Void h = refl
cells_alike c d Boolean h = refl
cells_alike c d (Int width sign) h = refl
cells_alike c d (Vector component count) h = rw (h 0 component refl) refl
cells_alike c d (Array element None stride) h = refl
cells_alike c d (Array element (Some n) stride) h = rw (h 0 element refl) refl
cells_alike c d (Runtime element stride) h = refl
cells_alike c d (Struct members block) h = members_alike c d members h
cells_alike c d (Pointer class target) h = refl
cells_alike c d (Function returns parameters) h = refl

place_at : (ts : Types) (limit id m leaf : ℕ) (f : Form) → number_of ts id ≡ Some m → m < limit → form_of ts id ≡ Some f → place_among ts limit id leaf ≡ place_step ts (place_among ts m) f leaf
place_at ts limit id m leaf f h l is = place_among_is ts limit id leaf ∙ rw (found_is ts limit m id h l, is) refl

place_whole : (ts : Types) (n part j : ℕ) → IsAmong ts n part → place_among ts n part j ≡ place_of ts part j
unfolding place_of
place_whole ts n part j among =
    let form = number_form ts part among.number (0, Void) among.is in
    place_at ts n part among.number j _ among.is among.below form ∙ sym (place_at ts (length ts) part among.number j _ among.is (number_lt ts part among.number among.is) form)

place_here : (ts : Types) (id : ℕ) (f : Form) (leaf n : ℕ) → number_of ts id ≡ Some n → form_of ts id ≡ Some f → place_of ts id leaf ≡ place_step ts (place_among ts n) f leaf
unfolding place_of
place_here ts id f leaf n h is = place_at ts (length ts) id n leaf f h (number_lt ts id n h) is

pub cells_by_form : (ts : Types) → AreSound ts → (id : ℕ) (f : Form) → form_of ts id ≡ Some f → cells_of ts id ≡ cells_step (cells_of ts) f
unfolding cells_of
cells_by_form ts sound id f is =
    let number = form_number ts id f is in
    let form : Some (form_at ts number.0) ≡ Some f = sym (number_form ts id number.0 (0, Void) number.1) ∙ is in
    let same : form_at ts number.0 ≡ f = cc in
    cells_at ts (length ts) id number.0 number.1 (number_lt ts id number.0 number.1) ∙ ap (cells_step (cells_among ts number.0)) same ∙ cells_alike (cells_among ts number.0) (cells_of ts) f (λ index part typed. whole number.0 number.1 index part typed)
  where
    whole : (n : ℕ) → number_of ts id ≡ Some n → (index part : ℕ) → part_type f index ≡ Some part → cells_among ts n part ≡ cells_of ts part
    whole n e index part typed =
        let before = sound.ordered id index part f is typed in
        let at : Some before.number ≡ Some n = sym before.is ∙ e in
        let same : before.number ≡ n = cc in
        cells_whole ts n part (subst (λ (k : ℕ). IsAmong ts k part) same before.among)

-- ---- paths

same_part : (ts : Types) (id i : ℕ) (f g : Form) (p q : ℕ) → form_of ts id ≡ Some f → form_of ts id ≡ Some g → part_type f i ≡ Some p → part_type g i ≡ Some q → p ≡ q
same_part ts id i f g p q is at h k =
    let forms : Some f ≡ Some g = sym is ∙ at in
    let same : f ≡ g = cc in
    let both : Some p ≡ Some q = sym h ∙ ap (λ (x : Form). part_type x i) same ∙ k in
    cc

pub leaf_inside : (ts : Types) → AreSound ts → (path : List ℕ) (id n target m : ℕ) → leaf_of ts id path ≡ Some n → reached_type ts id path ≡ Some target → IsOneOf (cells_of ts target) m → IsOneOf (cells_of ts id) (n + m)
unfolding leaf_of reached_type
leaf_inside ts sound [] id n target m h r inside =
    let z : n ≡ 0 = cc in
    let e : target ≡ id = cc in
    let k : n + m ≡ m = omega arith in
    rw (k, ← e) inside
leaf_inside ts sound (i ∷ path) id n target m h r inside =
    let l = leaf_is ts id i path n h in
    let to = reached_by ts id i path target r in
    let same : to.part ≡ l.part = same_part ts id i to.form l.form to.part l.part to.is l.is to.at (part_typed (cells_of ts) l.form i l.before l.part l.at) in
    let inner = leaf_inside ts sound path l.part l.within target m l.rest (rw same at to.rest) inside in
    let whole = part_inside (cells_of ts) l.form i l.before l.part (l.within + m) l.at inner in
    let sum : l.before + (l.within + m) ≡ n + m = omega (arith, l.sum) in
    rw (cells_by_form ts sound id l.form l.is, ← sum) whole

-- what a type says of the first index of a path of bytes
record OffsetIs (ts : Types) (id i : ℕ) (path : List ℕ) (n : ℕ) : Type 0 where
  pub form : Form
  pub before : ℕ
  pub part : ℕ
  pub within : ℕ
  pub is : form_of ts id ≡ Some form
  pub at : step_over ts form i ≡ Some (before, part)
  pub rest : offset_of ts part path ≡ Some within
  pub sum : n ≡ before + within

offset_by : (ts : Types) (id i : ℕ) (path : List ℕ) (n : ℕ) → offset_of ts id (i ∷ path) ≡ Some n → OffsetIs ts id i path n
unfolding offset_of
offset_by ts id i path n h = formed (form_of ts id) refl h
  where
    within : (f : Form) → form_of ts id ≡ Some f → (p : ℕ × ℕ) → step_over ts f i ≡ Some p → (o : Option ℕ) → offset_of ts p.1 path ≡ o
        → option_map (λ m. p.0 + m) o ≡ Some n → OffsetIs ts id i path n
    within f e p g None k h = cc
    within f e p g (Some m) k h = let s : n ≡ p.0 + m = cc in record { form = f; before = p.0; part = p.1; within = m; is = e; at = g; rest = k; sum = s }

    part : (f : Form) → form_of ts id ≡ Some f → (o : Option (ℕ × ℕ)) → step_over ts f i ≡ o
        → option_and_then (λ (p : ℕ × ℕ). option_map (λ m. p.0 + m) (offset_of ts p.1 path)) o ≡ Some n → OffsetIs ts id i path n
    part f e None g h = cc
    part f e (Some p) g h = within f e p g (offset_of ts p.1 path) refl h

    formed : (o : Option Form) → form_of ts id ≡ o
        → option_and_then (λ (p : ℕ × ℕ). option_map (λ m. p.0 + m) (offset_of ts p.1 path)) (option_and_then (λ f. step_over ts f i) o) ≡ Some n → OffsetIs ts id i path n
    formed None e h = cc
    formed (Some f) e h = part f e (step_over ts f i) refl h

added_twice : (x y : ℕ) (a : Option ℕ) → option_map (λ b. x + b) (option_map (λ b. y + b) a) ≡ option_map (λ b. x + y + b) a
added_twice x y None = refl
added_twice x y (Some b) = let e : x + (y + b) ≡ x + y + b = omega arith in ap Some e

added_none : (x : ℕ) (a : Option ℕ) → x ≡ 0 → a ≡ option_map (λ b. x + b) a
added_none x None z = refl
added_none x (Some b) z = let e : b ≡ x + b = omega arith in ap Some e

pub places_add : (ts : Types) → AreSound ts → (path : List ℕ) (id n o target m : ℕ) → leaf_of ts id path ≡ Some n → offset_of ts id path ≡ Some o → reached_type ts id path ≡ Some target → IsOneOf (cells_of ts target) m
    → place_of ts id (n + m) ≡ option_map (λ b. o + b) (place_of ts target m)
unfolding leaf_of offset_of reached_type
places_add ts sound [] id n o target m h g r inside =
    let z : n ≡ 0 = cc in
    let y : o ≡ 0 = cc in
    let e : target ≡ id = cc in
    let k : n + m ≡ m = omega arith in
    rw (k, e) (added_none o (place_of ts id m) y)
places_add ts sound (i ∷ path) id n o target m h g r inside =
    let l = leaf_is ts id i path n h in
    let b = offset_by ts id i path o g in
    let to = reached_by ts id i path target r in
    let typed = part_typed (cells_of ts) l.form i l.before l.part l.at in
    let same : to.part ≡ l.part = same_part ts id i to.form l.form to.part l.part to.is l.is to.at typed in
    let alike : b.part ≡ l.part = same_part ts id i b.form l.form b.part l.part b.is l.is (step_typed ts b.form i b.before b.part b.at) typed in
    let forms : Some b.form ≡ Some l.form = sym b.is ∙ l.is in
    let form : b.form ≡ l.form = cc in
    let rest : reached_type ts l.part path ≡ Some target = rw same at to.rest in
    let inner : IsOneOf (cells_of ts l.part) (l.within + m) = leaf_inside ts sound path l.part l.within target m l.rest rest inside in
    let before = sound.ordered id i l.part l.form l.is typed in
    let level = part_place ts (place_among ts before.number) l.form i l.before l.part b.before b.part (l.within + m) l.at (rw form at b.at) inner in
    let below = places_add ts sound path l.part l.within b.within target m l.rest (rw alike at b.rest) rest inside in
    let sum : n + m ≡ l.before + (l.within + m) = omega (arith, l.sum) in
    rw sum (
    place_here ts id l.form (l.before + (l.within + m)) before.number before.is l.is ∙ level
    ∙ ap (option_map (λ x. b.before + x)) (place_whole ts before.number l.part (l.within + m) before.among ∙ below)
    ∙ added_twice b.before b.within (place_of ts target m) ∙ ap (λ (k : ℕ). option_map (λ x. k + x) (place_of ts target m)) (sym b.sum)
    )

-- ---- scalars

-- a scalar has one leaf, at its first byte
scalar_place : (ts : Types) (place : ℕ → ℕ → Option ℕ) (f : Form) → is_scalar (Some f) ≡ true → (place_step ts place f 0 ≡ Some 0) × (cells_step (cells_of ts) f ≡ Some 1)
scalar_place ts place f h = grind arith

pub scalars_lie : (ts : Types) → AreSound ts → (path : List ℕ) (id n o target : ℕ) → leaf_of ts id path ≡ Some n → offset_of ts id path ≡ Some o → reached_type ts id path ≡ Some target → is_scalar (form_of ts target) ≡ true
    → place_of ts id n ≡ Some o
scalars_lie ts sound path id n o target h g r scalar = formed (form_of ts target) refl scalar
  where
    formed : (a : Option Form) → form_of ts target ≡ a → is_scalar a ≡ true → place_of ts id n ≡ Some o
    formed None e s = cc
    formed (Some f) e s =
        let number = form_number ts target f e in
        let at = scalar_place ts (place_among ts number.0) f s in
        let one : cells_of ts target ≡ Some 1 = cells_by_form ts sound target f e ∙ at.1 in
        let inside : IsOneOf (cells_of ts target) 0 = let l : 0 < 1 = omega arith in rw one l in
        let here : place_of ts target 0 ≡ Some 0 = place_here ts target f 0 number.0 number.1 e ∙ at.0 in
        let z : n + 0 ≡ n = omega arith in
        let y : o + 0 ≡ o = omega arith in
        ap (place_of ts id) (sym z) ∙ places_add ts sound path id n o target 0 h g r inside ∙ rw here (ap Some y)
