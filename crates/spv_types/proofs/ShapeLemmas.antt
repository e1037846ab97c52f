-- Shapes at a type: by its number, by its form, and by what its parts have.
use Rattle.std.proofs.Common.{◌≡◌, ◌∙◌, ℕ, zero, suc, ◌<◌, ◌==◌, Bool, true, false, List, [], ◌∷◌, length, Option, Some, None, slice_get, refl, sym, ap, subst, arith}
use Rattle.std.specs.Bool.{MatchBool}
use Rattle.std.specs.Option.{MatchOption, option_map}
use Rattle.std.specs.List.{AllZip}
use Rattle.spv_base.specs.Parts.{parts_in}
use Rattle.spv_base.specs.declared.values.Pointer.{Pointer as Reference}
use Rattle.spv_base.specs.declared.values.Root.{Root}
use Rattle.spv_base.specs.declared.values.Value.{Value, out-Value}
use Rattle.spv_types.specs.declared.forms.Form.{Form}
use Rattle.spv_types.specs.declared.forms.Form.TheVariants.{Void, Bool as Boolean, Int, Vector, Array, Runtime, Struct, Pointer, Function}
use Rattle.spv_types.specs.declared.forms.Member.{Member}
use Rattle.spv_types.specs.Types.{Types, form_of, number_of}
use Rattle.spv_types.specs.Shapes.{HasShape, HasShapeAmong, LeadsTo, part_type, pointer_in, shape_step}
use Rattle.spv_types.specs.Laws.{AreByForms, AreSound, ComesBefore}
use Rattle.spv_types.proofs.TypeLemmas.{number_less, number_lt, number_none}
use Rattle.std.proofs.lemmas.Bool.{eqb-true}
use Rattle.spv_base.proofs.Exports.{some_and}
use Rattle.spv_base.specs.Options.{holds}

-- ---- a form's values, where its parts' values are carried along

members_map : (one other : ℕ → Value → Type 0) (ms : List Member) (vs : List Value)
    → ((index part : ℕ) → option_map (λ (m : Member). m.ty) (slice_get ms index) ≡ Some part → (w : Value) → one part w → other part w)
    → AllZip (λ (m : Member). one m.ty) ms vs → AllZip (λ (m : Member). other m.ty) ms vs
members_map one other [] [] each h = tt
members_map one other [] (v ∷ vs) each h = h
members_map one other (m ∷ ms) [] each h = h
members_map one other (m ∷ ms) (v ∷ vs) each h = (each 0 m.ty refl v h.0, members_map one other ms vs (λ index part is. each (suc index) part is) h.1)

-- pointers lead in one module's types to where they lead in another's
abbrev pub LeadAlike : Types → Types → (Root → Option ℕ) → Type 0
LeadAlike ts us roots = (p : Reference) (target : ℕ) → LeadsTo ts roots p target → LeadsTo us roots p target

-- each part of a form has in one reading what it has in another
abbrev pub PartsCarry : Form → (ℕ → Value → Type 0) → (ℕ → Value → Type 0) → Type 0
PartsCarry f one other = (index part : ℕ) → part_type f index ≡ Some part → (w : Value) → one part w → other part w

pub step_maps : (ts us : Types) (roots : Root → Option ℕ) (one other : ℕ → Value → Type 0) (f : Form) (v : Value)
    → LeadAlike ts us roots → PartsCarry f one other → shape_step ts roots one f v → shape_step us roots other f v
step_maps ts us roots one other Void v leads each h = h
step_maps ts us roots one other Boolean v leads each h = h
step_maps ts us roots one other (Int width sign) v leads each h = h
step_maps ts us roots one other (Vector component count) v leads each h =
    some_and (parts_in (out-Value v)) _ _ (λ vs has. (has.0, λ k d lt. each 0 component refl _ (has.1 k d lt))) h
step_maps ts us roots one other (Array element n stride) v leads each h =
    some_and (parts_in (out-Value v)) _ _ (λ vs has. (has.0, λ k d lt. each 0 element refl _ (has.1 k d lt))) h
step_maps ts us roots one other (Runtime element stride) v leads each h =
    some_and (parts_in (out-Value v)) _ _ (λ vs has. λ k d lt. each 0 element refl _ (has k d lt)) h
step_maps ts us roots one other (Struct members block) v leads each h =
    some_and (parts_in (out-Value v)) _ _ (λ vs has. members_map one other members vs each has) h
step_maps ts us roots one other (Pointer class target) v leads each h =
    some_and (pointer_in (out-Value v)) _ _ (λ p has. leads p target has) h
step_maps ts us roots one other (Function returns parameters) v leads each h = h

-- ---- the shape by number

-- among the first n types a type before number n has the shape that its form makes of the types before it
pub among_is : (ts : Types) (roots : Root → Option ℕ) (n m id : ℕ) (v : Value) → number_of ts id ≡ Some m → m < n
    → HasShapeAmong ts roots n id v ≡ MatchOption (form_of ts id) ⊥ (λ f. shape_step ts roots (HasShapeAmong ts roots m) f v)
unfolding HasShapeAmong
among_is ts roots zero m id v h l = absurd (omega arith)
among_is ts roots (suc n) m id v h l = rw h (go (λ k. among_is ts roots n m id v h k) (m == n) refl)
  where
    go : (m < n → HasShapeAmong ts roots n id v ≡ MatchOption (form_of ts id) ⊥ (λ f. shape_step ts roots (HasShapeAmong ts roots m) f v)) → (b : Bool) → (m == n) ≡ b
        → MatchBool b (MatchOption (form_of ts id) ⊥ (λ f. shape_step ts roots (HasShapeAmong ts roots n) f v)) (HasShapeAmong ts roots n id v)
        ≡ MatchOption (form_of ts id) ⊥ (λ f. shape_step ts roots (HasShapeAmong ts roots m) f v)
    go ih true e = let same : m ≡ n = eqb-true m n e in rw same refl
    go ih false e = ih (number_less m n l e)

-- any two numbers of types above a type's own give it one shape
pub among_same : (ts : Types) (roots : Root → Option ℕ) (n m k id : ℕ) (v : Value) → number_of ts id ≡ Some k → k < n → k < m
    → HasShapeAmong ts roots n id v → HasShapeAmong ts roots m id v
among_same ts roots n m k id v h l r has =
    let P : Type 0 → Type 0 = λ X. X in
    subst P (sym (among_is ts roots m k id v h r)) (subst P (among_is ts roots n k id v h l) has)

pub form_number : (ts : Types) (id : ℕ) (f : Form) → form_of ts id ≡ Some f → (m : ℕ) × (number_of ts id ≡ Some m)
form_number ts id f h = go (number_of ts id) refl
  where
    go : (o : Option ℕ) → number_of ts id ≡ o → (m : ℕ) × (number_of ts id ≡ Some m)
    go None e = let none = number_none ts id e in absurd cc
    go (Some m) e = (m, e)

-- ---- the shape by form

module _ (ts : Types) (roots : Root → Option ℕ) (sound : AreSound ts) where
  -- a part has among the types before the whole the shape that it has among all
  whole : (id m : ℕ) (f : Form) → number_of ts id ≡ Some m → form_of ts id ≡ Some f → PartsCarry f (HasShapeAmong ts roots m) (HasShape ts roots)
  unfolding HasShape
  whole id m f h is index part at w has =
      let before : ComesBefore ts part id = sound.ordered id index part f is at in
      let same : before.number ≡ m = let e = before.is in cc in
      let low : before.among.number < m = rw (← same) before.among.below in
      among_same ts roots m (length ts) before.among.number part w before.among.is low (number_lt ts part before.among.number before.among.is) has

  among : (id m : ℕ) (f : Form) → number_of ts id ≡ Some m → form_of ts id ≡ Some f → PartsCarry f (HasShape ts roots) (HasShapeAmong ts roots m)
  unfolding HasShape
  among id m f h is index part at w has =
      let before : ComesBefore ts part id = sound.ordered id index part f is at in
      let same : before.number ≡ m = let e = before.is in cc in
      let low : before.among.number < m = rw (← same) before.among.below in
      among_same ts roots (length ts) m before.among.number part w before.among.is (number_lt ts part before.among.number before.among.is) low has

  opened : (id m : ℕ) (f : Form) (v : Value) → number_of ts id ≡ Some m → form_of ts id ≡ Some f
      → HasShape ts roots id v ≡ shape_step ts roots (HasShapeAmong ts roots m) f v
  unfolding HasShape
  opened id m f v h is =
      among_is ts roots (length ts) m id v h (number_lt ts id m h)
      ∙ ap (λ (o : Option Form). MatchOption o ⊥ (λ g. shape_step ts roots (HasShapeAmong ts roots m) g v)) is

  pub shapes_are_by_forms : AreByForms ts roots
  shapes_are_by_forms id f v is =
      let number = form_number ts id f is in
      let m : ℕ = number.0 in
      let same = opened id m f v number.1 is in
      let P : Type 0 → Type 0 = λ X. X in (
        λ has. step_maps ts ts roots (HasShapeAmong ts roots m) (HasShape ts roots) f v (λ p target leads. leads) (whole id m f number.1 is) (subst P same has),
        λ has. subst P (sym same) (step_maps ts ts roots (HasShape ts roots) (HasShapeAmong ts roots m) f v (λ p target leads. leads) (among id m f number.1 is) has),
      )

-- ---- a value of a shape has a type with a form

pub no_form : (ts : Types) (roots : Root → Option ℕ) (n id : ℕ) (v : Value) → form_of ts id ≡ None → HasShapeAmong ts roots n id v → ⊥
unfolding HasShapeAmong
no_form ts roots zero id v none h = h
no_form ts roots (suc n) id v none h = go (no_form ts roots n id v none) (holds n (number_of ts id)) (form_of ts id) none h
  where
    go : (HasShapeAmong ts roots n id v → ⊥) → (b : Bool) (o : Option Form) → o ≡ None → MatchBool b (MatchOption o ⊥ (λ f. shape_step ts roots (HasShapeAmong ts roots n) f v)) (HasShapeAmong ts roots n id v) → ⊥
    go below true None e has = has
    go below true (Some f) e has = absurd cc
    go below false o e has = below has

pub shape_formed : (ts : Types) (roots : Root → Option ℕ) (id : ℕ) (v : Value) → HasShape ts roots id v → (f : Form) × (form_of ts id ≡ Some f)
unfolding HasShape
shape_formed ts roots id v h = go (form_of ts id) refl
  where
    go : (o : Option Form) → form_of ts id ≡ o → (f : Form) × (form_of ts id ≡ Some f)
    go None e = absurd (no_form ts roots (length ts) id v e h)
    go (Some f) e = (f, e)
