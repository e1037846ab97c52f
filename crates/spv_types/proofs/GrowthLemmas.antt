-- Types stay sound as a type that keeps the rule of its form is added at their end.
use Rattle.std.proofs.Common.{◌≡◌, ◌∙◌, ◌⊎◌, inl, inr, ⊎_elim, ℕ, zero, suc, ◌==◌, Bool, true, false, List, [], ◌∷◌, ◌++◌, length, Option, Some, None, slice_get, refl, sym, ap}
use Rattle.std.proofs.lemmas.Bool.{and_parts, and_from}
use Rattle.std.specs.Prelude.{not, ◌&&◌, ◌||◌, if◌then◌else◌}
use Rattle.std.specs.Option.{option_map, option_map_or, option_or}
use Rattle.spv_types.specs.declared.forms.Form.{Form}
use Rattle.spv_types.specs.declared.forms.Form.TheVariants.{Void, Bool as Boolean, Int, Vector, Array, Runtime, Struct, Pointer, Function}
use Rattle.spv_types.specs.declared.forms.Member.{Member}
use Rattle.spv_types.specs.Types.{Types, form_of, number_of}
use Rattle.spv_types.specs.Rules.{form_has_runtime, has_runtime, is_data, is_runtime, is_scalar, is_sized_data, keep_members, keeps_form, keeps_member, last_type}
use Rattle.spv_types.specs.Shapes.{part_type}
use Rattle.spv_types.specs.Laws.{AreSound, ComesBefore}
use Rattle.spv_types.proofs.TypeLemmas.{number_form, number_lt, number_push}
use Rattle.spv_types.proofs.ShapeLemmas.{form_number}
use Rattle.spv_types.proofs.SoundLemmas.{CountAlike, form_carried}

pub form_append : (ts us : Types) (q : ℕ) → form_of (ts ++ us) q ≡ option_or (form_of ts q) (form_of us q)
form_append [] us q = refl
form_append (t ∷ ts) us q = step (t.0 == q) (form_append ts us q)
  where
    step : (b : Bool) → form_of (ts ++ us) q ≡ option_or (form_of ts q) (form_of us q) → (if b then Some t.1 else form_of (ts ++ us) q) ≡ option_or (if b then Some t.1 else form_of ts q) (form_of us q)
    step true h = refl
    step false h = h

form_none : (ts : Types) (q : ℕ) → form_of ts q ≡ None → number_of ts q ≡ None
form_none ts q h = go (number_of ts q) refl
  where
    go : (o : Option ℕ) → number_of ts q ≡ o → o ≡ None
    go None e = refl
    go (Some m) e = let f = number_form ts q m (0, Void) e in cc

-- ---- what keeps a rule is found

-- a type with an id is there
abbrev IsFound : Types → ℕ → Type 0
IsFound ts q = (g : Form) × (form_of ts q ≡ Some g)

found_by : (ts : Types) (test : Option Form → Bool) (q : ℕ) → test None ≡ false → test (form_of ts q) ≡ true → IsFound ts q
found_by ts test q none h = go (form_of ts q) refl h
  where
    go : (o : Option Form) → form_of ts q ≡ o → test o ≡ true → IsFound ts q
    go None e g = cc
    go (Some x) e g = (x, e)

sized_found : (ts : Types) (q : ℕ) → is_sized_data ts q ≡ true → IsFound ts q
sized_found ts q h = found_by ts (λ o. is_data o) q refl (and_parts (is_data (form_of ts q)) (not (has_runtime ts q)) h).0

member_found : (ts : Types) (block last : Bool) (q : ℕ) → keeps_member ts block last q ≡ true → IsFound ts q
member_found ts block last q h = go (is_sized_data ts q) refl h
  where
    go : (b : Bool) → is_sized_data ts q ≡ b → (b || (last && (block && is_runtime (form_of ts q)))) ≡ true → IsFound ts q
    go true e g = sized_found ts q e
    go false e g =
        let inner = and_parts last (block && is_runtime (form_of ts q)) g in
        found_by ts (λ o. is_runtime o) q refl (and_parts block (is_runtime (form_of ts q)) inner.1).1

members_found : (ts : Types) (block : Bool) (ms : List Member) → keep_members ts block ms ≡ true
    → (index part : ℕ) → option_map (λ (m : Member). m.ty) (slice_get ms index) ≡ Some part → IsFound ts part
unfolding keep_members
members_found ts block [] h index part is = cc
members_found ts block (m ∷ ms) h zero part is =
    let here = member_found ts block (length ms == 0) m.ty (and_parts (keeps_member ts block (length ms == 0) m.ty) (keep_members ts block ms) h).0 in
    let same : m.ty ≡ part = cc in
    rw (← same) here
members_found ts block (m ∷ ms) h (suc index) part is = members_found ts block ms (and_parts (keeps_member ts block (length ms == 0) m.ty) (keep_members ts block ms) h).1 index part is

-- each part of a form that keeps its rule
part_found : (ts : Types) (f : Form) → keeps_form ts f ≡ true → (index part : ℕ) → part_type f index ≡ Some part → IsFound ts part
part_found ts Void h index part is = cc
part_found ts Boolean h index part is = cc
part_found ts (Int width sign) h index part is = cc
part_found ts (Vector component count) h index part is =
    let same : component ≡ part = cc in
    rw (← same) (found_by ts (λ o. is_scalar o) component refl (and_parts _ _ h).0)
part_found ts (Array element n stride) h index part is = let same : element ≡ part = cc in rw (← same) (sized_found ts element h)
part_found ts (Runtime element stride) h index part is = let same : element ≡ part = cc in rw (← same) (sized_found ts element h)
part_found ts (Struct members block) h index part is = members_found ts block members h index part is
part_found ts (Pointer class target) h index part is = cc
part_found ts (Function returns parameters) h index part is = cc

-- ---- a type added at the end

module _ (ts : Types) (id : ℕ) (f : Form) where
  found_form : (q : ℕ) (g : Form) → form_of ts q ≡ Some g → form_of (ts ++ (id, f) ∷ []) q ≡ Some g
  found_form q g h = form_append ts ((id, f) ∷ []) q ∙ rw h refl

  found_number : (q m : ℕ) → number_of ts q ≡ Some m → number_of (ts ++ (id, f) ∷ []) q ≡ Some m
  found_number q m h = number_push ts (id, f) q ∙ rw h refl

  -- a type is one of those before, or the one added
  in_either : (q : ℕ) (g : Form) → form_of (ts ++ (id, f) ∷ []) q ≡ Some g → (form_of ts q ≡ Some g) ⊎ ((number_of (ts ++ (id, f) ∷ []) q ≡ Some (length ts)) × (f ≡ g))
  in_either q g h = go (form_of ts q) refl (id == q) refl (sym (form_append ts ((id, f) ∷ []) q) ∙ h)
    where
      go : (o : Option Form) → form_of ts q ≡ o → (b : Bool) → (id == q) ≡ b → option_or o (if b then Some f else None) ≡ Some g
          → (form_of ts q ≡ Some g) ⊎ ((number_of (ts ++ (id, f) ∷ []) q ≡ Some (length ts)) × (f ≡ g))
      go (Some x) e b t k = inl (e ∙ k)
      go None e true t k =
          let none = form_none ts q e in
          let same : f ≡ g = cc in
          inr (number_push ts (id, f) q ∙ rw (none, t) refl, same)
      go None e false t k = cc

  stays : (q : ℕ) → IsFound ts q → form_of (ts ++ (id, f) ∷ []) q ≡ form_of ts q
  stays q found = found_form q found.0 found.1 ∙ sym found.1

  carried : (test : Option Form → Bool) (q : ℕ) → test None ≡ false → test (form_of ts q) ≡ true → test (form_of (ts ++ (id, f) ∷ []) q) ≡ true
  carried test q none h = ap test (stays q (found_by ts test q none h)) ∙ h

  -- the last member of a struct that keeps its rule
  last_stays : (block : Bool) (ms : List Member) → keep_members ts block ms ≡ true
      → option_map_or (λ (q : ℕ). is_runtime (form_of (ts ++ (id, f) ∷ []) q)) (last_type ms) false ≡ option_map_or (λ (q : ℕ). is_runtime (form_of ts q)) (last_type ms) false
  unfolding keep_members
  last_stays block [] h = refl
  last_stays block (m ∷ []) h = ap (λ (o : Option Form). is_runtime o) (stays m.ty (member_found ts block true m.ty (and_parts (keeps_member ts block true m.ty) true h).0))
  last_stays block (m ∷ n ∷ ms) h = last_stays block (n ∷ ms) (and_parts (keeps_member ts block (length (n ∷ ms) == 0) m.ty) (keep_members ts block (n ∷ ms)) h).1

  runtime_stays : (o : Option Form) → ((g : Form) → o ≡ Some g → keeps_form ts g ≡ true) → form_has_runtime (ts ++ (id, f) ∷ []) o ≡ form_has_runtime ts o
  runtime_stays None kept = refl
  runtime_stays (Some Void) kept = refl
  runtime_stays (Some Boolean) kept = refl
  runtime_stays (Some (Int width sign)) kept = refl
  runtime_stays (Some (Vector component count)) kept = refl
  runtime_stays (Some (Array element n stride)) kept = refl
  runtime_stays (Some (Runtime element stride)) kept = refl
  runtime_stays (Some (Struct members block)) kept = last_stays block members (kept (Struct members block) refl)
  runtime_stays (Some (Pointer class target)) kept = refl
  runtime_stays (Some (Function returns parameters)) kept = refl

  sized_stays : AreSound ts → (q : ℕ) → is_sized_data ts q ≡ true → is_sized_data (ts ++ (id, f) ∷ []) q ≡ true
  sized_stays sound q h =
      let parts = and_parts (is_data (form_of ts q)) (not (has_runtime ts q)) h in
      let same : form_of (ts ++ (id, f) ∷ []) q ≡ form_of ts q = stays q (sized_found ts q h) in
      let runtime : has_runtime (ts ++ (id, f) ∷ []) q ≡ has_runtime ts q
      = ap (λ (o : Option Form). form_has_runtime (ts ++ (id, f) ∷ []) o) same ∙ runtime_stays (form_of ts q) (λ g is. sound.kept q g is) in
      and_from _ _ (carried (λ o. is_data o) q refl parts.0) (ap (λ (b : Bool). not b) runtime ∙ parts.1)

  grown : AreSound ts → CountAlike ts (ts ++ (id, f) ∷ [])
  grown sound = record {
    scalars = λ q h. carried (λ o. is_scalar o) q refl h;
    parts = λ q h. carried (λ o. is_data o) q refl h;
    sized = λ q h. sized_stays sound q h;
    runtimes = λ q h. carried (λ o. is_runtime o) q refl h;
  }

  still_before : (part q : ℕ) → ComesBefore ts part q → ComesBefore (ts ++ (id, f) ∷ []) part q
  still_before part q before = record {
    number = before.number;
    is = found_number q before.number before.is;
    among = record { number = before.among.number; is = found_number part before.among.number before.among.is; below = before.among.below };
  }

  -- a part of the added type is among the types before it
  added_after : (q part : ℕ) → number_of (ts ++ (id, f) ∷ []) q ≡ Some (length ts) → IsFound ts part → ComesBefore (ts ++ (id, f) ∷ []) part q
  added_after q part is found =
      let number = form_number ts part found.0 found.1 in
      record {
        number = length ts;
        is = is;
        among = record { number = number.0; is = found_number part number.0 number.1; below = number_lt ts part number.0 number.1 };
      }

  pub sound_push : AreSound ts → keeps_form ts f ≡ true → AreSound (ts ++ (id, f) ∷ [])
  sound_push sound keeps = record {
    kept = λ q g h. form_carried ts (ts ++ (id, f) ∷ []) g (grown sound)
        (⊎_elim (λ was. sound.kept q g was) (λ added. ap (λ (x : Form). keeps_form ts x) (sym added.1) ∙ keeps) (in_either q g h));
    ordered = λ q index part g h is.
        ⊎_elim (λ was. still_before part q (sound.ordered q index part g was is))
        (λ added. added_after q part added.0 (part_found ts f keeps index part (ap (λ (x : Form). part_type x index) added.1 ∙ is)))
        (in_either q g h);
  }
