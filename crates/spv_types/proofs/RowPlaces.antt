-- Where the row of a part lies in the row of a value, and what a write to the part leaves.
use Rattle.std.proofs.Common.{◌≡◌, ◌∙◌, ℕ, zero, suc, ◌+◌, ◌*◌, ◌≤◌, Bool, true, false, List, [], ◌∷◌, ◌++◌, Option, Some, None, length, length-append, append_assoc, append-nil, refl, sym, ap, subst, arith, take, drop, take_at, drop_at, slice_get, slice_set, nat_lt}
use Rattle.std.specs.Option.{option_map, option_and_then}
use Rattle.std.specs.Prelude.{if◌then◌else◌}
use Rattle.std.specs.List.{All, AllZip, flat_map}
use Rattle.std.proofs.lemmas.List.Elements.{All-head, All-tail}
use Rattle.spv_base.specs.Cell.{Cell}
use Rattle.spv_base.specs.Parts.{part_at, parts_in, with_part}
use Rattle.spv_base.specs.declared.values.Root.{Root}
use Rattle.spv_base.specs.declared.values.Value.{Value, List as Many, out-Value}
use Rattle.spv_base.specs.declared.values.Value.TheOpen.{Value-F}
use Rattle.spv_base.proofs.Exports.{guarded}
use Rattle.spv_types.specs.declared.forms.Form.{Form}
use Rattle.spv_types.specs.declared.forms.Form.TheVariants.{Void, Bool as Boolean, Int, Vector, Array, Runtime, Struct, Pointer, Function}
use Rattle.spv_types.specs.declared.forms.Member.{Member}
use Rattle.spv_types.specs.Types.{Types, form_of}
use Rattle.spv_types.specs.Cells.{cells_of, members_cells}
use Rattle.spv_types.specs.Leaves.{element_part, leaf_of, member_part, part_of}
use Rattle.spv_types.specs.Laws.{AreSound}
use Rattle.spv_types.specs.Shapes.{HasShape, shape_step}
use Rattle.spv_types.proofs.ShapeLemmas.{shapes_are_by_forms}
use Rattle.spv_types.specs.Rows.{leaves, Lies}
use Rattle.spv_types.proofs.RowLemmas.{leaves_many, many_row, row_changed, row_split}
use Rattle.spv_types.proofs.CellLemmas.{added_is}
use Rattle.spv_types.proofs.RowCounts.{Counts, shapes_count}

-- ---- values before one of a list

each_before : (P : Value → Type 0) (c : ℕ) (vs : List Value) (i : ℕ) (u : Value) → ((v : Value) → P v → length (leaves v) ≡ c) → All P vs → slice_get vs i ≡ Some u
    → P u × (length (flat_map leaves (take i vs)) ≡ c * i)
each_before P c [] i u count all h = cc
each_before P c (v ∷ vs) zero u count all h = let e : v ≡ u = cc in (subst P e (All-head P v vs all), omega arith)
each_before P c (v ∷ vs) (suc i) u count all h =
    let one : length (leaves v) ≡ c = count v (All-head P v vs all) in
    let rest = each_before P c vs i u count (All-tail P v vs all) h in
    (rest.0, rw (length-append (leaves v) (flat_map leaves (take i vs))) (omega (arith, rest.1)))

-- the member of a number, and the leaves before it
pub record MemberIs (cells : ℕ → Option ℕ) (ms : List Member) (i before part : ℕ) : Type 0 where
  pub member : Member
  pub found : slice_get ms i ≡ Some member
  pub sum : members_cells cells (take i ms) ≡ Some before
  pub ty : member.ty ≡ part

pub member_is : (cells : ℕ → Option ℕ) (ms : List Member) (i before part : ℕ) → member_part cells ms i ≡ Some (before, part) → MemberIs cells ms i before part
member_is cells ms i before part h = go (slice_get ms i) (members_cells cells (take i ms)) refl refl h
  where
    go : (o : Option Member) (s : Option ℕ) → slice_get ms i ≡ o → members_cells cells (take i ms) ≡ s
        → option_and_then {U = ℕ × ℕ} (λ (m : Member). option_map {U = ℕ × ℕ} (λ (n : ℕ). (n, m.ty)) s) o ≡ Some (before, part) → MemberIs cells ms i before part
    go None s e f h = cc
    go (Some m) None e f h = cc
    go (Some m) (Some n) e f h =
        let same : (n, m.ty) ≡ (before, part) = cc in
        let first : n ≡ before = ap (λ (p : ℕ × ℕ). p.0) same in
        record { member = m; found = e; sum = f ∙ ap Some first; ty = ap (λ (p : ℕ × ℕ). p.1) same }

members_before : (shape : ℕ → Value → Type 0) (cells : ℕ → Option ℕ) (ms : List Member) (vs : List Value) (i n : ℕ) (m : Member) (u : Value) → Counts shape cells
    → AllZip (λ (m : Member). shape m.ty) ms vs → slice_get ms i ≡ Some m → members_cells cells (take i ms) ≡ Some n → slice_get vs i ≡ Some u
    → shape m.ty u × (length (flat_map leaves (take i vs)) ≡ n)
unfolding members_cells
members_before shape cells [] vs i n m u count all g s h = cc
members_before shape cells (k ∷ ms) [] i n m u count all g s h = cc
members_before shape cells (k ∷ ms) (v ∷ vs) zero n m u count all g s h =
    let e : v ≡ u = cc in
    let f : k ≡ m = cc in
    let z : 0 ≡ n = cc in
    (subst (λ (x : Value). shape m.ty x) e (subst (λ (x : Member). shape x.ty v) f all.0), z)
members_before shape cells (k ∷ ms) (v ∷ vs) (suc i) n m u count all g s h =
    let sum = added_is (cells k.ty) (members_cells cells (take i ms)) n s in
    let one : length (leaves v) ≡ sum.0 = count k.ty v sum.0 all.0 sum.2 in
    let rest = members_before shape cells ms vs i sum.1 m u count all.1 g sum.3 h in
    (rest.0, rw (length-append (leaves v) (flat_map leaves (take i vs))) (omega (arith, rest.1, sum.4)))

-- ---- one level

pub element_is : (a : Option ℕ) (element i before part : ℕ) → option_map {U = ℕ × ℕ} (λ c. (c * i, element)) a ≡ Some (before, part)
    → (c : ℕ) × (a ≡ Some c) × (c * i ≡ before) × (element ≡ part)
element_is None element i before part h = cc
element_is (Some c) element i before part h =
    let same : (c * i, element) ≡ (before, part) = cc in
    (c, refl, ap (λ (p : ℕ × ℕ). p.0) same, ap (λ (p : ℕ × ℕ). p.1) same)

elements_step : (shape : ℕ → Value → Type 0) (cells : ℕ → Option ℕ) (element i before part : ℕ) (vs : List Value) (u : Value) → Counts shape cells
    → All (shape element) vs → element_part cells element i ≡ Some (before, part) → slice_get vs i ≡ Some u
    → shape part u × (length (flat_map leaves (take i vs)) ≡ before)
elements_step shape cells element i before part vs u count all h g =
    let at = element_is (cells element) element i before part h in
    let found = each_before (shape element) at.0 vs i u (λ w s. count element w at.0 s at.1) all g in
    (subst (λ (k : ℕ). shape k u) at.3 found.0, found.1 ∙ at.2)

-- a part of a value has the shape of the part's type, and the values before it have the leaves before it
part_step : (ts : Types) (roots : Root → Option ℕ) (shape : ℕ → Value → Type 0) (cells : ℕ → Option ℕ) (f : Form) (v : Value) (i before part : ℕ) (vs : List Value) (u : Value)
    → Counts shape cells → shape_step ts roots shape f v → part_of cells f i ≡ Some (before, part) → out-Value v ≡ Value-F.List vs → slice_get vs i ≡ Some u
    → shape part u × (length (flat_map leaves (take i vs)) ≡ before)
part_step ts roots shape cells Void v i before part vs u count s h e g = cc
part_step ts roots shape cells Boolean v i before part vs u count s h e g = cc
part_step ts roots shape cells (Int width sign) v i before part vs u count s h e g = cc
part_step ts roots shape cells (Vector component size) v i before part vs u count s h e g =
    let has = rw e at s in
    elements_step shape cells component i before part vs u count has.1 (guarded (nat_lt i size) (element_part cells component i) (before, part) h).1 g
part_step ts roots shape cells (Array element None stride) v i before part vs u count s h e g = cc
part_step ts roots shape cells (Array element (Some size) stride) v i before part vs u count s h e g =
    let has = rw e at s in
    elements_step shape cells element i before part vs u count has.1 (guarded (nat_lt i size) (element_part cells element i) (before, part) h).1 g
part_step ts roots shape cells (Runtime element stride) v i before part vs u count s h e g =
    let has = rw e at s in
    elements_step shape cells element i before part vs u count has h g
part_step ts roots shape cells (Struct members block) v i before part vs u count s h e g =
    let has = rw e at s in
    let m = member_is cells members i before part h in
    let found = members_before shape cells members vs i before m.member u count has m.found m.sum g in
    (subst (λ (k : ℕ). shape k u) m.ty found.0, found.1)
part_step ts roots shape cells (Pointer class target) v i before part vs u count s h e g = cc
part_step ts roots shape cells (Function returns parameters) v i before part vs u count s h e g = cc

-- ---- paths

-- what the first index of a path names in a value
pub record HasPart (v : Value) (i : ℕ) (path : List ℕ) (w : Value) : Type 0 where
  pub values : List Value
  pub part : Value
  pub is : out-Value v ≡ Value-F.List values
  pub at : slice_get values i ≡ Some part
  pub rest : part_at part path ≡ Some w

pub has_part : (v : Value) (i : ℕ) (path : List ℕ) (w : Value) → part_at v (i ∷ path) ≡ Some w → HasPart v i path w
has_part v i path w h = level (out-Value v) refl h
  where
    item : (vs : List Value) → out-Value v ≡ Value-F.List vs → (o : Option Value) → slice_get vs i ≡ o → option_and_then (λ u. part_at u path) o ≡ Some w → HasPart v i path w
    item vs e None g h = cc
    item vs e (Some u) g h = record { values = vs; part = u; is = e; at = g; rest = h }

    level : (l : Value-F Value) → out-Value v ≡ l → option_and_then (λ u. part_at u path) (option_and_then (λ vs. slice_get vs i) (parts_in l)) ≡ Some w → HasPart v i path w
    level (Value-F.Scalar c) e h = cc
    level (Value-F.Ptr p) e h = cc
    level (Value-F.List vs) e h = item vs e (slice_get vs i) refl h

-- what a type says of the first index of a path
pub record LeafIs (ts : Types) (id i : ℕ) (path : List ℕ) (n : ℕ) : Type 0 where
  pub form : Form
  pub before : ℕ
  pub part : ℕ
  pub within : ℕ
  pub is : form_of ts id ≡ Some form
  pub at : part_of (cells_of ts) form i ≡ Some (before, part)
  pub rest : leaf_of ts part path ≡ Some within
  pub sum : n ≡ before + within

pub leaf_is : (ts : Types) (id i : ℕ) (path : List ℕ) (n : ℕ) → leaf_of ts id (i ∷ path) ≡ Some n → LeafIs ts id i path n
unfolding leaf_of
leaf_is ts id i path n h = formed (form_of ts id) refl h
  where
    within : (f : Form) → form_of ts id ≡ Some f → (p : ℕ × ℕ) → part_of (cells_of ts) f i ≡ Some p → (o : Option ℕ) → leaf_of ts p.1 path ≡ o
        → option_map (λ m. p.0 + m) o ≡ Some n → LeafIs ts id i path n
    within f e p g None k h = cc
    within f e p g (Some m) k h = let s : n ≡ p.0 + m = cc in record { form = f; before = p.0; part = p.1; within = m; is = e; at = g; rest = k; sum = s }

    part : (f : Form) → form_of ts id ≡ Some f → (o : Option (ℕ × ℕ)) → part_of (cells_of ts) f i ≡ o
        → option_and_then (λ (p : ℕ × ℕ). option_map (λ m. p.0 + m) (leaf_of ts p.1 path)) o ≡ Some n → LeafIs ts id i path n
    part f e None g h = cc
    part f e (Some p) g h = within f e p g (leaf_of ts p.1 path) refl h

    formed : (o : Option Form) → form_of ts id ≡ o
        → option_and_then (λ (p : ℕ × ℕ). option_map (λ m. p.0 + m) (leaf_of ts p.1 path)) (option_and_then (λ f. part_of (cells_of ts) f i) o) ≡ Some n → LeafIs ts id i path n
    formed None e h = cc
    formed (Some f) e h = part f e (part_of (cells_of ts) f i) refl h

-- the row of a part of a part
three : (a b c d e : List Cell) → a ++ ((b ++ (c ++ d)) ++ e) ≡ (a ++ b) ++ (c ++ (d ++ e))
three a b c d e = simp append_assoc

pub changed : (v : Value) (i : ℕ) (path : List ℕ) (vs : List Value) (u w : Value) → out-Value v ≡ Value-F.List vs → slice_get vs i ≡ Some u
    → with_part v (i ∷ path) w ≡ Many (slice_set vs i (with_part u path w))
changed v i path vs u w e g = rw (e, g) refl

pub part_lies : (ts : Types) (roots : Root → Option ℕ) (sound : AreSound ts) (path : List ℕ) (id n : ℕ) (v w : Value) → HasShape ts roots id v → leaf_of ts id path ≡ Some n → part_at v path ≡ Some w → Lies v path w n
unfolding leaf_of
part_lies ts roots sound [] id n v w h k g =
    let same : v ≡ w = cc in
    let none : 0 ≡ n = cc in
    record { before = []; after = []; begins = none; row = sym (append-nil (leaves v)) ∙ ap (λ (x : Value). leaves x ++ []) same; written = λ u. sym (append-nil (leaves u)) }
part_lies ts roots sound (i ∷ path) id n v w h k g =
    let l = leaf_is ts id i path n k in
    let p = has_part v i path w g in
    let shape : shape_step ts roots (HasShape ts roots) l.form v = (shapes_are_by_forms ts roots sound id l.form v l.is).0 h in
    let step = part_step ts roots (HasShape ts roots) (cells_of ts) l.form v i l.before l.part p.values p.part (shapes_count ts roots) shape l.at p.is p.at in
    let inner : Lies p.part path w l.within = part_lies ts roots sound path l.part l.within p.part w step.0 l.rest p.rest in
    let first : List Cell = flat_map leaves (take i p.values) in
    let last : List Cell = flat_map leaves (drop (suc i) p.values) in
    record {
      before = first ++ inner.before;
      after = inner.after ++ last;
      begins = length-append first inner.before ∙ omega (arith, step.1, inner.begins, l.sum);
      row = many_row v p.values p.is ∙ row_split p.values i p.part p.at ∙ ap (λ (x : List Cell). first ++ (x ++ last)) inner.row ∙ three first inner.before (leaves w) inner.after last;
      written = λ u. ap leaves (changed v i path p.values p.part u p.is p.at) ∙ leaves_many (slice_set p.values i (with_part p.part path u)) ∙ row_changed p.values i p.part (with_part p.part path u) p.at
          ∙ ap (λ (x : List Cell). first ++ (x ++ last)) (inner.written u) ∙ three first inner.before (leaves u) inner.after last;
    }

-- ---- the same by takes and drops

pub lies_at : (v : Value) (path : List ℕ) (w : Value) (n : ℕ) → Lies v path w n → take (length (leaves w)) (drop n (leaves v)) ≡ leaves w
lies_at v path w n l =
    rw (l.row, drop_at l.before (leaves w ++ l.after) n l.begins, take_at (leaves w) l.after (length (leaves w)) refl) refl

pub lies_written : (v : Value) (path : List ℕ) (w : Value) (n : ℕ) (u : Value) → Lies v path w n
    → leaves (with_part v path u) ≡ take n (leaves v) ++ (leaves u ++ drop (n + length (leaves w)) (leaves v))
lies_written v path w n u l =
    let front : take n (leaves v) ≡ l.before = ap (take n) l.row ∙ take_at l.before (leaves w ++ l.after) n l.begins in
    let joined : leaves v ≡ (l.before ++ leaves w) ++ l.after = l.row ∙ sym (append_assoc l.before (leaves w) l.after) in
    let long : length (l.before ++ leaves w) ≡ n + length (leaves w) = length-append l.before (leaves w) ∙ ap (λ k. k + length (leaves w)) l.begins in
    let back : drop (n + length (leaves w)) (leaves v) ≡ l.after = ap (drop (n + length (leaves w))) joined ∙ drop_at (l.before ++ leaves w) l.after (n + length (leaves w)) long in
    rw (front, back) (l.written u)

pub lies_within : (v : Value) (path : List ℕ) (w : Value) (n : ℕ) → Lies v path w n → n + length (leaves w) ≤ length (leaves v)
lies_within v path w n l =
    let sum : length (leaves v) ≡ length l.before + (length (leaves w) + length l.after) = ap length l.row ∙ length-append l.before (leaves w ++ l.after) ∙ ap (λ k. length l.before + k) (length-append (leaves w) l.after) in
    omega (arith, l.begins)
