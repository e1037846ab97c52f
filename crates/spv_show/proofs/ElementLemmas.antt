-- Types whose runtime arrays have a number of elements: their numbers and forms, and the values that have their shapes.
use Rattle.std.proofs.Common.{◌≡◌, ◌∙◌, ℕ, zero, suc, ◌<◌, ◌==◌, Bool, true, false, List, [], ◌∷◌, length, Option, Some, None, slice_get, refl, sym, ap, subst}
use Rattle.std.specs.Bool.{MatchBool}
use Rattle.std.specs.List.{AllZip}
use Rattle.std.specs.Option.{MatchOption, option_and_then, option_map, option_map_or}
use Rattle.std.specs.Prelude.{IsSome, if◌then◌else◌, nat_lt}
use Rattle.spv_base.specs.Options.{holds}
use Rattle.spv_base.specs.Parts.{parts_in}
use Rattle.spv_base.specs.declared.values.Value.{Value, out-Value}
use Rattle.spv_base.proofs.Exports.{some_and}
use Rattle.spv_types.specs.declared.forms.Form.{Form}
use Rattle.spv_types.specs.declared.forms.Form.TheVariants.{Void, Bool as Boolean, Int, Vector, Array, Runtime, Struct, Pointer, Function}
use Rattle.spv_types.specs.declared.forms.Member.{Member}
use Rattle.spv_types.specs.Cells.{cells_among, cells_of, cells_step, members_cells}
use Rattle.spv_types.specs.Laws.{AreSound, ComesBefore}
use Rattle.spv_types.specs.Rows.{no_roots}
use Rattle.spv_types.specs.Shapes.{HasShape, HasShapeAmong, part_type, shape_step}
use Rattle.spv_types.specs.Types.{Types, form_of, found_among, in_first, number_of}
use Rattle.spv_types.proofs.Exports.{added_is, among_is, form_number, no_pointer, number_lt, times_is}
use Rattle.spv_show.specs.Elements.{sized, with_elements}

-- ---- numbers and forms

pub length_sized : (k : ℕ) (ts : Types) → length (with_elements k ts) ≡ length ts
unfolding with_elements
length_sized k [] = refl
length_sized k (t ∷ ts) = ap suc (length_sized k ts)

pub number_sized : (k : ℕ) (ts : Types) (id : ℕ) → number_of (with_elements k ts) id ≡ number_of ts id
unfolding with_elements
number_sized k [] id = refl
number_sized k (t ∷ ts) id = ap (λ (o : Option ℕ). if t.0 == id then Some 0 else option_map suc o) (number_sized k ts id)

pub form_sized : (k : ℕ) (ts : Types) (id : ℕ) → form_of (with_elements k ts) id ≡ option_map (sized k) (form_of ts id)
unfolding with_elements
form_sized k [] id = refl
form_sized k (t ∷ ts) id = by_test (t.0 == id) (form_sized k ts id)
  where
    by_test : (b : Bool) → form_of (with_elements k ts) id ≡ option_map (sized k) (form_of ts id)
        → (if b then Some (sized k t.1) else form_of (with_elements k ts) id) ≡ option_map (sized k) (if b then Some t.1 else form_of ts id)
    by_test true e = refl
    by_test false e = e

abbrev pub sized_found : ℕ → ℕ × Form → ℕ × Form
sized_found k f = (f.0, sized k f.1)

pub found_sized : (k : ℕ) (ts : Types) (n id : ℕ) → found_among (with_elements k ts) n id ≡ option_map (sized_found k) (found_among ts n id)
found_sized k ts n id = rw (number_sized k ts id, form_sized k ts id) (by_number (number_of ts id) (form_of ts id))
  where
    by_form : (m : ℕ) (b : Bool) (o : Option Form)
        → (if b then option_map (λ (f : Form). (m, f)) (option_map (sized k) o) else None) ≡ option_map (sized_found k) (if b then option_map (λ (f : Form). (m, f)) o else None)
    by_form m true None = refl
    by_form m true (Some f) = refl
    by_form m false o = refl

    by_number : (p : Option ℕ) (o : Option Form) → option_and_then (λ (m : ℕ). if nat_lt m n then option_map (λ (f : Form). (m, f)) (option_map (sized k) o) else None) p
        ≡ option_map (sized_found k) (option_and_then (λ (m : ℕ). if nat_lt m n then option_map (λ (f : Form). (m, f)) o else None) p)
    by_number None o = refl
    by_number (Some m) o = by_form m (nat_lt m n) o

-- the parts of a form stay of their types
part_sized : (k : ℕ) (f : Form) (index : ℕ) → part_type (sized k f) index ≡ part_type f index
part_sized k Void index = refl
part_sized k Boolean index = refl
part_sized k (Int width sign) index = refl
part_sized k (Vector component count) index = refl
part_sized k (Array element n stride) index = refl
part_sized k (Runtime element stride) index = refl
part_sized k (Struct members block) index = refl
part_sized k (Pointer class target) index = refl
part_sized k (Function returns parameters) index = refl

-- ---- a form's values, where its parts' values are carried along

members_map : (one other : ℕ → Value → Type 0) (ms : List Member) (vs : List Value)
    → ((index part : ℕ) → option_map (λ (m : Member). m.ty) (slice_get ms index) ≡ Some part → (w : Value) → one part w → other part w)
    → AllZip (λ (m : Member). one m.ty) ms vs → AllZip (λ (m : Member). other m.ty) ms vs
members_map one other [] [] each h = tt
members_map one other [] (v ∷ vs) each h = h
members_map one other (m ∷ ms) [] each h = h
members_map one other (m ∷ ms) (v ∷ vs) each h = (each 0 m.ty refl v h.0, members_map one other ms vs (λ index part is. each (suc index) part is) h.1)

step_map : (ts us : Types) (one other : ℕ → Value → Type 0) (f : Form) (v : Value) → ((index part : ℕ) → part_type f index ≡ Some part → (w : Value) → one part w → other part w)
    → shape_step ts no_roots one f v → shape_step us no_roots other f v
step_map ts us one other Void v each h = h
step_map ts us one other Boolean v each h = h
step_map ts us one other (Int width sign) v each h = h
step_map ts us one other (Vector component count) v each h = some_and (parts_in (out-Value v)) _ _ (λ vs has. (has.0, λ i d lt. each 0 component refl _ (has.1 i d lt))) h
step_map ts us one other (Array element n stride) v each h = some_and (parts_in (out-Value v)) _ _ (λ vs has. (has.0, λ i d lt. each 0 element refl _ (has.1 i d lt))) h
step_map ts us one other (Runtime element stride) v each h = some_and (parts_in (out-Value v)) _ _ (λ vs has. λ i d lt. each 0 element refl _ (has i d lt)) h
step_map ts us one other (Struct members block) v each h = some_and (parts_in (out-Value v)) _ _ (λ vs has. members_map one other members vs each has) h
step_map ts us one other (Pointer class target) v each h = absurd (no_pointer ts v target h)
step_map ts us one other (Function returns parameters) v each h = h

-- ---- a type with a number of leaves has no runtime array in it

members_counted : (counts : ℕ → Option ℕ) (ms : List Member) (n index part : ℕ) → members_cells counts ms ≡ Some n → option_map (λ (m : Member). m.ty) (slice_get ms index) ≡ Some part → (c : ℕ) × (counts part ≡ Some c)
unfolding members_cells
members_counted counts [] n index part h is = absurd (cc)
members_counted counts (m ∷ ms) n zero part h is =
    let sum = added_is (counts m.ty) (members_cells counts ms) n h in
    let same : m.ty ≡ part = cc in
    (sum.0, ap counts (sym same) ∙ sum.2)
members_counted counts (m ∷ ms) n (suc index) part h is =
    let sum = added_is (counts m.ty) (members_cells counts ms) n h in
    members_counted counts ms sum.1 index part sum.3 is

pub part_counted : (counts : ℕ → Option ℕ) (f : Form) (n index part : ℕ) → cells_step counts f ≡ Some n → part_type f index ≡ Some part → (c : ℕ) × (counts part ≡ Some c)
part_counted counts Void n index part h is = absurd (cc)
part_counted counts Boolean n index part h is = absurd (cc)
part_counted counts (Int width sign) n index part h is = absurd (cc)
part_counted counts (Vector component size) n index part h is =
    let times = times_is (counts component) size n h in
    let same : component ≡ part = cc in
    (times.0, ap counts (sym same) ∙ times.1)
part_counted counts (Array element None stride) n index part h is = absurd (cc)
part_counted counts (Array element (Some size) stride) n index part h is =
    let times = times_is (counts element) size n h in
    let same : element ≡ part = cc in
    (times.0, ap counts (sym same) ∙ times.1)
part_counted counts (Runtime element stride) n index part h is = absurd (cc)
part_counted counts (Struct members block) n index part h is = members_counted counts members n index part h is
part_counted counts (Pointer class target) n index part h is = absurd (cc)
part_counted counts (Function returns parameters) n index part h is = absurd (cc)

counted_sized : (counts : ℕ → Option ℕ) (k : ℕ) (f : Form) (n : ℕ) → cells_step counts f ≡ Some n → sized k f ≡ f
counted_sized counts k Void n h = refl
counted_sized counts k Boolean n h = refl
counted_sized counts k (Int width sign) n h = refl
counted_sized counts k (Vector component size) n h = refl
counted_sized counts k (Array element size stride) n h = refl
counted_sized counts k (Runtime element stride) n h = absurd (cc)
counted_sized counts k (Struct members block) n h = refl
counted_sized counts k (Pointer class target) n h = refl
counted_sized counts k (Function returns parameters) n h = refl

counted_among : (k : ℕ) (ts : Types) (m id : ℕ) (v : Value) (n : ℕ) → HasShapeAmong ts no_roots m id v → cells_among ts m id ≡ Some n → HasShapeAmong (with_elements k ts) no_roots m id v
unfolding HasShapeAmong cells_among in_first
counted_among k ts zero id v n h e = absurd h
counted_among k ts (suc m) id v n h e = rw (number_sized k ts id, form_sized k ts id) (here (λ part w c has counted. counted_among k ts m part w c has counted) (holds m (number_of ts id)) (form_of ts id) h e)
  where
    formed : ((part : ℕ) (w : Value) (c : ℕ) → HasShapeAmong ts no_roots m part w → cells_among ts m part ≡ Some c → HasShapeAmong (with_elements k ts) no_roots m part w) → (f : Form)
        → shape_step ts no_roots (HasShapeAmong ts no_roots m) f v → cells_step (cells_among ts m) f ≡ Some n → shape_step (with_elements k ts) no_roots (HasShapeAmong (with_elements k ts) no_roots m) (sized k f) v
    formed below f h e =
        let mapped = step_map ts (with_elements k ts) (HasShapeAmong ts no_roots m) (HasShapeAmong (with_elements k ts) no_roots m) f v
        (λ index part is w has. let c = part_counted (cells_among ts m) f n index part e is in below part w c.0 has c.1) h in
        subst (λ (g : Form). shape_step (with_elements k ts) no_roots (HasShapeAmong (with_elements k ts) no_roots m) g v) (sym (counted_sized (cells_among ts m) k f n e)) mapped

    here : ((part : ℕ) (w : Value) (c : ℕ) → HasShapeAmong ts no_roots m part w → cells_among ts m part ≡ Some c → HasShapeAmong (with_elements k ts) no_roots m part w) → (b : Bool) (o : Option Form)
        → MatchBool b (MatchOption o ⊥ (λ f. shape_step ts no_roots (HasShapeAmong ts no_roots m) f v)) (HasShapeAmong ts no_roots m id v)
        → (if b then option_map_or (cells_step (cells_among ts m)) o None else cells_among ts m id) ≡ Some n
        → MatchBool b (MatchOption (option_map (sized k) o) ⊥ (λ f. shape_step (with_elements k ts) no_roots (HasShapeAmong (with_elements k ts) no_roots m) f v)) (HasShapeAmong (with_elements k ts) no_roots m id v)
    here below true None h e = absurd h
    here below true (Some f) h e = formed below f h e
    here below false o h e = below id v n h e

-- so its values are values of the type whatever number of elements runtime arrays have
pub counted_shape : (k : ℕ) (ts : Types) (id : ℕ) (v : Value) → HasShape ts no_roots id v → IsSome (cells_of ts id) → HasShape (with_elements k ts) no_roots id v
unfolding HasShape cells_of
counted_shape k ts id v h counted = rw (length_sized k ts) (by_count (cells_among ts (length ts) id) refl counted)
  where
    by_count : (o : Option ℕ) → cells_among ts (length ts) id ≡ o → IsSome o → HasShapeAmong (with_elements k ts) no_roots (length ts) id v
    by_count None e some = absurd (cc)
    by_count (Some n) e some = counted_among k ts (length ts) id v n h e

-- ---- the shape of a type by its form

-- any two numbers of types above a type's own give it one shape
among_same : (us : Types) (n m number id : ℕ) (v : Value) → number_of us id ≡ Some number → number < n → number < m → HasShapeAmong us no_roots n id v → HasShapeAmong us no_roots m id v
among_same us n m number id v h l r has =
    let P : Type 0 → Type 0 = λ X. X in
    subst P (sym (among_is us no_roots m number id v h r)) (subst P (among_is us no_roots n number id v h l) has)

pub sized_shape : (k : ℕ) (ts : Types) → AreSound ts → (id : ℕ) (f : Form) (v : Value) → form_of ts id ≡ Some f
    → shape_step (with_elements k ts) no_roots (HasShape (with_elements k ts) no_roots) (sized k f) v → HasShape (with_elements k ts) no_roots id v
unfolding HasShape
sized_shape k ts sound id f v is h =
    let us : Types = with_elements k ts in
    let number = form_number ts id f is in
    let m : ℕ = number.0 in
    let own : number_of us id ≡ Some m = number_sized k ts id ∙ number.1 in
    let form : form_of us id ≡ Some (sized k f) = form_sized k ts id ∙ ap (option_map (sized k)) is in
    let opened : HasShapeAmong us no_roots (length us) id v ≡ shape_step us no_roots (HasShapeAmong us no_roots m) (sized k f) v =
    among_is us no_roots (length us) m id v own (number_lt us id m own) ∙ ap (λ (o : Option Form). MatchOption o ⊥ (λ g. shape_step us no_roots (HasShapeAmong us no_roots m) g v)) form in
    let P : Type 0 → Type 0 = λ X. X in
    subst P (sym opened) (step_map us us (HasShapeAmong us no_roots (length us)) (HasShapeAmong us no_roots m) (sized k f) v (λ index part at w has. lower m number.1 index part (sym (part_sized k f index) ∙ at) w has) h)
  where
    lower : (m : ℕ) → number_of ts id ≡ Some m → (index part : ℕ) → part_type f index ≡ Some part → (w : Value) → HasShapeAmong (with_elements k ts) no_roots (length (with_elements k ts)) part w → HasShapeAmong (with_elements k ts) no_roots m part w
    lower m number index part at w has =
        let before : ComesBefore ts part id = sound.ordered id index part f is at in
        let same : before.number ≡ m = let e = before.is in cc in
        let low : before.among.number < m = rw (← same) before.among.below in
        let own : number_of (with_elements k ts) part ≡ Some before.among.number = number_sized k ts part ∙ before.among.is in
        among_same (with_elements k ts) (length (with_elements k ts)) m before.among.number part w own (number_lt (with_elements k ts) part before.among.number own) low has
