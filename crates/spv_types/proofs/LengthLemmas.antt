-- The length of an array changes no number, no rule and no part of a type, and no shape before the array.
use Rattle.std.proofs.Common.{◌≡◌, ◌≢◌, ◌∙◌, ◌⊎◌, inl, inr, ⊎_elim, ℕ, zero, suc, ◌<◌, ◌≤◌, ◌==◌, Bool, true, false, List, [], ◌∷◌, length, Option, Some, None, refl, sym, ap, arith}
use Rattle.std.specs.Prelude.{◌&&◌, not, if◌then◌else◌, option_and_then}
use Rattle.std.specs.Bool.{MatchBool}
use Rattle.std.specs.Option.{MatchOption, option_map_or}
use Rattle.spv_base.specs.Entries.{writes}
use Rattle.spv_base.specs.declared.values.Root.{Root}
use Rattle.spv_base.specs.declared.values.Value.{Value}
use Rattle.spv_types.specs.declared.forms.Form.{Form}
use Rattle.spv_types.specs.declared.forms.Form.TheVariants.{Void, Bool as Boolean, Int, Vector, Array, Runtime, Struct, Pointer, Function}
use Rattle.spv_types.specs.Types.{Types, form_of, lengthened, number_of, with_length}
use Rattle.spv_types.specs.Rules.{form_has_runtime, has_runtime, is_data, is_runtime, is_scalar, is_sized_data, keeps_form, last_type}
use Rattle.spv_types.specs.Shapes.{HasShape, HasShapeAmong, part_type, reached_type, shape_step}
use Rattle.spv_types.specs.Laws.{AreSound, ComesBefore, IsAmong}
use Rattle.spv_types.proofs.TypeLemmas.{number_lt}
use Rattle.spv_types.proofs.ShapeLemmas.{LeadAlike, among_same, step_maps}
use Rattle.spv_types.proofs.SoundLemmas.{CountAlike, form_carried}
use Rattle.std.proofs.lemmas.Bool.{eqb-true}
use Rattle.spv_base.proofs.Exports.{not_same}
use Rattle.spv_base.specs.Options.{holds}

-- ---- a form written under an id

pub number_written : (ts : Types) (id q : ℕ) (f : Form) → number_of (writes id f ts) q ≡ number_of ts q
number_written [] id q f = refl
number_written (t ∷ ts) id q f = step (t.0 == id) (number_written ts id q f)
  where
    step : (b : Bool) → number_of (writes id f ts) q ≡ number_of ts q → number_of (if b then (t.0, f) ∷ ts else t ∷ writes id f ts) q ≡ number_of (t ∷ ts) q
    step true h = refl
    step false h = rw h refl

pub form_written : (ts : Types) (id q : ℕ) (f : Form) → id ≢ q → form_of (writes id f ts) q ≡ form_of ts q
form_written [] id q f h = refl
form_written (t ∷ ts) id q f h = step (t.0 == id) refl (form_written ts id q f h)
  where
    step : (b : Bool) → (t.0 == id) ≡ b → form_of (writes id f ts) q ≡ form_of ts q → form_of (if b then (t.0, f) ∷ ts else t ∷ writes id f ts) q ≡ form_of (t ∷ ts) q
    step true e g =
        let s : t.0 ≡ id = eqb-true t.0 id e in
        let d : (t.0 == q) ≡ false = rw s (not_same id q h) in
        rw d refl
    step false e g = rw g refl

written_here : (ts : Types) (id : ℕ) (f g : Form) → form_of ts id ≡ Some g → form_of (writes id f ts) id ≡ Some f
written_here [] id f g h = cc
written_here (t ∷ ts) id f g h = step (t.0 == id) refl h (written_here ts id f g)
  where
    step : (b : Bool) → (t.0 == id) ≡ b → (if b then Some t.1 else form_of ts id) ≡ Some g → (form_of ts id ≡ Some g → form_of (writes id f ts) id ≡ Some f)
        → form_of (if b then (t.0, f) ∷ ts else t ∷ writes id f ts) id ≡ Some f
    step true e is ih = rw e refl
    step false e is ih = rw e (ih is)

-- ---- a length given to an array

pub length_numbers : (ts : Types) (id n q : ℕ) → number_of (with_length ts id n) q ≡ number_of ts q
unfolding with_length
length_numbers ts id n q = go (form_of ts id)
  where
    go : (o : Option Form) → number_of (option_map_or (λ f. writes id (lengthened n f) ts) o ts) q ≡ number_of ts q
    go None = refl
    go (Some f) = number_written ts id q (lengthened n f)

pub length_others : (ts : Types) (id n q : ℕ) → id ≢ q → form_of (with_length ts id n) q ≡ form_of ts q
unfolding with_length
length_others ts id n q h = go (form_of ts id)
  where
    go : (o : Option Form) → form_of (option_map_or (λ f. writes id (lengthened n f) ts) o ts) q ≡ form_of ts q
    go None = refl
    go (Some f) = form_written ts id q (lengthened n f) h

pub length_here : (ts : Types) (id n : ℕ) (f : Form) → form_of ts id ≡ Some f → form_of (with_length ts id n) id ≡ Some (lengthened n f)
unfolding with_length
length_here ts id n f h = rw h (written_here ts id (lengthened n f) f h)

pub length_none : (ts : Types) (id n : ℕ) → form_of ts id ≡ None → with_length ts id n ≡ ts
unfolding with_length
length_none ts id n h = rw h refl

-- a form is as it was, or has got a length
abbrev MayLengthen : ℕ → Option Form → Option Form → Type 0
MayLengthen n before after = (after ≡ before) ⊎ ((f : Form) × (before ≡ Some f) × (after ≡ Some (lengthened n f)))

length_may : (ts : Types) (id n q : ℕ) → MayLengthen n (form_of ts q) (form_of (with_length ts id n) q)
length_may ts id n q = go (id == q) refl
  where
    here : (o : Option Form) → form_of ts id ≡ o → MayLengthen n (form_of ts id) (form_of (with_length ts id n) id)
    here None e = inl (ap (λ (us : Types). form_of us id) (length_none ts id n e))
    here (Some f) e = inr (f, e, length_here ts id n f e)

    go : (b : Bool) → (id == q) ≡ b → MayLengthen n (form_of ts q) (form_of (with_length ts id n) q)
    go true e = let same : id ≡ q = eqb-true id q e in rw (← same) (here (form_of ts id) refl)
    go false e = let apart : id ≢ q = grind arith in inl (length_others ts id n q apart)

-- what does not ask for an array's length is the same with a length
lengthened_same : {A : Type 0} (n : ℕ) (g : Form → A) → ((element : ℕ) (length stride : Option ℕ) → g (Array element (Some n) stride) ≡ g (Array element length stride))
    → (f : Form) → g (lengthened n f) ≡ g f
lengthened_same n g h Void = refl
lengthened_same n g h Boolean = refl
lengthened_same n g h (Int width sign) = refl
lengthened_same n g h (Vector component count) = refl
lengthened_same n g h (Array element length stride) = h element length stride
lengthened_same n g h (Runtime element stride) = refl
lengthened_same n g h (Struct members block) = refl
lengthened_same n g h (Pointer class target) = refl
lengthened_same n g h (Function returns parameters) = refl

may_same : {A : Type 0} (n : ℕ) (g : Option Form → A) (before after : Option Form) → MayLengthen n before after
    → ((element : ℕ) (length stride : Option ℕ) → g (Some (Array element (Some n) stride)) ≡ g (Some (Array element length stride))) → g after ≡ g before
may_same n g before after may h =
    ⊎_elim (λ same. ap g same)
    (λ longer. ap g longer.2 ∙ lengthened_same n (λ f. g (Some f)) h longer.0 ∙ sym (ap g longer.1))
    may

-- ---- rules and order

module _ (ts : Types) (id n : ℕ) where
  runtime_same : (q : ℕ) → is_runtime (form_of (with_length ts id n) q) ≡ is_runtime (form_of ts q)
  runtime_same q = may_same n (λ o. is_runtime o) (form_of ts q) (form_of (with_length ts id n) q) (length_may ts id n q) (λ element length stride. refl)

  data_same : (q : ℕ) → is_data (form_of (with_length ts id n) q) ≡ is_data (form_of ts q)
  data_same q = may_same n (λ o. is_data o) (form_of ts q) (form_of (with_length ts id n) q) (length_may ts id n q) (λ element length stride. refl)

  scalar_same : (q : ℕ) → is_scalar (form_of (with_length ts id n) q) ≡ is_scalar (form_of ts q)
  scalar_same q = may_same n (λ o. is_scalar o) (form_of ts q) (form_of (with_length ts id n) q) (length_may ts id n q) (λ element length stride. refl)

  last_same : (o : Option ℕ) → option_map_or (λ (q : ℕ). is_runtime (form_of (with_length ts id n) q)) o false ≡ option_map_or (λ (q : ℕ). is_runtime (form_of ts q)) o false
  last_same None = refl
  last_same (Some q) = runtime_same q

  form_runtime_same : (o : Option Form) → form_has_runtime (with_length ts id n) o ≡ form_has_runtime ts o
  form_runtime_same None = refl
  form_runtime_same (Some Void) = refl
  form_runtime_same (Some Boolean) = refl
  form_runtime_same (Some (Int width sign)) = refl
  form_runtime_same (Some (Vector component count)) = refl
  form_runtime_same (Some (Array element length stride)) = refl
  form_runtime_same (Some (Runtime element stride)) = refl
  form_runtime_same (Some (Struct members block)) = last_same (last_type members)
  form_runtime_same (Some (Pointer class target)) = refl
  form_runtime_same (Some (Function returns parameters)) = refl

  has_runtime_same : (q : ℕ) → has_runtime (with_length ts id n) q ≡ has_runtime ts q
  has_runtime_same q =
      form_runtime_same (form_of (with_length ts id n) q)
      ∙ may_same n (λ o. form_has_runtime ts o) (form_of ts q) (form_of (with_length ts id n) q) (length_may ts id n q) (λ element length stride. refl)

  sized_same : (q : ℕ) → is_sized_data (with_length ts id n) q ≡ is_sized_data ts q
  sized_same q = ap (λ (b : Bool). b && not (has_runtime (with_length ts id n) q)) (data_same q) ∙ ap (λ (b : Bool). is_data (form_of ts q) && not b) (has_runtime_same q)

  count_alike : CountAlike ts (with_length ts id n)
  count_alike = record {
    scalars = λ q h. scalar_same q ∙ h;
    parts = λ q h. data_same q ∙ h;
    sized = λ q h. sized_same q ∙ h;
    runtimes = λ q h. runtime_same q ∙ h;
  }

  comes_before : (part q : ℕ) → ComesBefore ts part q → ComesBefore (with_length ts id n) part q
  comes_before part q before = record {
    number = before.number;
    is = length_numbers ts id n q ∙ before.is;
    among = record { number = before.among.number; is = length_numbers ts id n part ∙ before.among.is; below = before.among.below };
  }

  -- a form with a length was there before, with or without it
  had_form : (q : ℕ) (g : Form) → form_of (with_length ts id n) q ≡ Some g → (f : Form) × (form_of ts q ≡ Some f) × ((g ≡ f) ⊎ (g ≡ lengthened n f))
  had_form q g h =
      ⊎_elim (λ same. (g, sym same ∙ h, inl refl))
      (λ longer. let e : Some (lengthened n longer.0) ≡ Some g = sym longer.2 ∙ h in let s : g ≡ lengthened n longer.0 = cc in (longer.0, longer.1, inr s))
      (length_may ts id n q)

  form_same : {A : Type 0} (x : Form → A) (f g : Form) → (g ≡ f) ⊎ (g ≡ lengthened n f)
      → ((element : ℕ) (length stride : Option ℕ) → x (Array element (Some n) stride) ≡ x (Array element length stride)) → x f ≡ x g
  form_same x f g is h = ⊎_elim (λ same. sym (ap x same)) (λ longer. sym (ap x longer ∙ lengthened_same n x h f)) is

  pub length_sound : AreSound ts → AreSound (with_length ts id n)
  length_sound sound = record {
    kept = λ q g h.
        let had = had_form q g h in
        let same : keeps_form ts had.0 ≡ keeps_form ts g = form_same (λ f. keeps_form ts f) had.0 g had.2 (λ element length stride. refl) in
        form_carried ts (with_length ts id n) g count_alike (sym same ∙ sound.kept q had.0 had.1);
    ordered = λ q index part g h is.
        let had = had_form q g h in
        let same : part_type had.0 index ≡ part_type g index = form_same (λ f. part_type f index) had.0 g had.2 (λ element length stride. refl) in
        comes_before part q (sound.ordered q index part had.0 had.1 (same ∙ is));
  }

  -- ---- shapes before the array

  reached_same : (q : ℕ) (path : List ℕ) → reached_type (with_length ts id n) q path ≡ reached_type ts q path
  unfolding reached_type
  reached_same q [] = refl
  reached_same q (i ∷ path) =
      let step : option_and_then (λ (f : Form). part_type f i) (form_of (with_length ts id n) q) ≡ option_and_then (λ (f : Form). part_type f i) (form_of ts q)
      = may_same n (λ o. option_and_then (λ (f : Form). part_type f i) o) (form_of ts q) (form_of (with_length ts id n) q) (length_may ts id n q) (λ element length stride. refl) in
      rw step (go (λ t. reached_same t path) (option_and_then (λ (f : Form). part_type f i) (form_of ts q)))
    where
      go : ((t : ℕ) → reached_type (with_length ts id n) t path ≡ reached_type ts t path) → (o : Option ℕ)
          → option_and_then (λ t. reached_type (with_length ts id n) t path) o ≡ option_and_then (λ t. reached_type ts t path) o
      go same None = refl
      go same (Some t) = same t

  lead_alike : (roots : Root → Option ℕ) → LeadAlike ts (with_length ts id n) roots
  lead_alike roots p target h = go (roots p.root) h
    where
      go : (o : Option ℕ) → option_and_then (λ t. reached_type ts t p.path) o ≡ Some target → option_and_then (λ t. reached_type (with_length ts id n) t p.path) o ≡ Some target
      go None g = g
      go (Some t) g = reached_same t p.path ∙ g

  -- a type before the array keeps its form
  before_same : (k m q : ℕ) → number_of ts id ≡ Some k → m < k → number_of ts q ≡ Some m → form_of (with_length ts id n) q ≡ form_of ts q
  before_same k m q at lt is = length_others ts id n q (λ same. let e : number_of ts q ≡ Some k = rw (← same) at in let s : m ≡ k = cc in omega arith)

  -- and what has a shape among the first types before the array has it with the length
  shape_kept : (roots : Root → Option ℕ) (k m q : ℕ) (v : Value) → number_of ts id ≡ Some k → m ≤ k → HasShapeAmong ts roots m q v → HasShapeAmong (with_length ts id n) roots m q v
  unfolding HasShapeAmong
  shape_kept roots k zero q v at le h = h
  shape_kept roots k (suc m) q v at le h =
      rw (length_numbers ts id n q) (go (λ p w g. shape_kept roots k m p w at (omega arith) g) (number_of ts q) refl h)
    where
      formed : ((p : ℕ) (w : Value) → HasShapeAmong ts roots m p w → HasShapeAmong (with_length ts id n) roots m p w) → (o : Option Form)
          → MatchOption o ⊥ (λ f. shape_step ts roots (HasShapeAmong ts roots m) f v)
          → MatchOption o ⊥ (λ f. shape_step (with_length ts id n) roots (HasShapeAmong (with_length ts id n) roots m) f v)
      formed below None g = g
      formed below (Some f) g =
          step_maps ts (with_length ts id n) roots (HasShapeAmong ts roots m) (HasShapeAmong (with_length ts id n) roots m) f v (lead_alike roots) (λ index part is w has. below part w has) g

      here : ((p : ℕ) (w : Value) → HasShapeAmong ts roots m p w → HasShapeAmong (with_length ts id n) roots m p w) → (b : Bool)
          → (b ≡ true → form_of (with_length ts id n) q ≡ form_of ts q)
          → MatchBool b (MatchOption (form_of ts q) ⊥ (λ f. shape_step ts roots (HasShapeAmong ts roots m) f v)) (HasShapeAmong ts roots m q v)
          → MatchBool b (MatchOption (form_of (with_length ts id n) q) ⊥ (λ f. shape_step (with_length ts id n) roots (HasShapeAmong (with_length ts id n) roots m) f v))
          (HasShapeAmong (with_length ts id n) roots m q v)
      here below true same g = rw (same refl) (formed below (form_of ts q) g)
      here below false same g = below q v g

      go : ((p : ℕ) (w : Value) → HasShapeAmong ts roots m p w → HasShapeAmong (with_length ts id n) roots m p w) → (o : Option ℕ) → number_of ts q ≡ o
          → MatchBool (holds m (number_of ts q)) (MatchOption (form_of ts q) ⊥ (λ f. shape_step ts roots (HasShapeAmong ts roots m) f v)) (HasShapeAmong ts roots m q v)
          → MatchBool (holds m (number_of ts q)) (MatchOption (form_of (with_length ts id n) q) ⊥ (λ f. shape_step (with_length ts id n) roots (HasShapeAmong (with_length ts id n) roots m) f v))
          (HasShapeAmong (with_length ts id n) roots m q v)
      go below o e = here below (holds m (number_of ts q)) (numbered o e)
        where
          numbered : (o : Option ℕ) → number_of ts q ≡ o → holds m (number_of ts q) ≡ true → form_of (with_length ts id n) q ≡ form_of ts q
          numbered None e t = let s : holds m (number_of ts q) ≡ false = rw e refl in cc
          numbered (Some j) e t =
              let s : (j == m) ≡ true = rw e at t in
              let same : j ≡ m = eqb-true j m s in
              before_same k j q at (omega arith) e

  pub length_shapes : (roots : Root → Option ℕ) (k q : ℕ) (v : Value) → number_of ts id ≡ Some k → IsAmong ts k q → HasShape ts roots q v → HasShape (with_length ts id n) roots q v
  unfolding HasShape
  length_shapes roots k q v at among h =
      let before : HasShapeAmong ts roots k q v = among_same ts roots (length ts) k among.number q v among.is (number_lt ts q among.number among.is) among.below h in
      let is : number_of (with_length ts id n) q ≡ Some among.number = length_numbers ts id n q ∙ among.is in
      among_same (with_length ts id n) roots k (length (with_length ts id n)) among.number q v is among.below (number_lt (with_length ts id n) q among.number is)
      (shape_kept roots k k q v at (omega arith) before)
