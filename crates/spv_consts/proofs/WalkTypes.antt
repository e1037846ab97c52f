-- The number of each type that a module declares, and what its rules say of an undefined value's type.
use Rattle.std.proofs.Common.{◌≡◌, ◌∙◌, ℕ, suc, ◌+◌, ◌<◌, ◌==◌, Bool, true, false, eqb, List, [], ◌∷◌, ◌++◌, map, length, append_assoc, append-nil, Option, Some, None, inl, inr, refl, sym, ap, arith}
use Rattle.std.proofs.lemmas.Bool.{eq-eqb, eqb-true, ne_eqb, or_left}
use Rattle.std.specs.Prelude.{◌||◌, if◌then◌else◌}
use Rattle.std.specs.List.{AllByRecursion, Contains}
use Rattle.std.specs.Option.{is_some, option_map, option_or}
use Rattle.spv_base.proofs.Exports.{each_left, each_right}
use Rattle.spv_base.specs.Order.{AreDistinct}
use Rattle.spv_base.specs.declared.instructions.Inst.{Inst}
use Rattle.spv_types.specs.declared.forms.Form.{Form}
use Rattle.spv_ops.specs.declared.op.TheConstants.{UNDEF}
use Rattle.spv_types.specs.Build.{type_breaches, type_code}
use Rattle.spv_types.specs.Constants.{is_constant}
use Rattle.spv_types.specs.Laws.{HasResult, IsAmong}
use Rattle.spv_types.specs.Rules.{is_data, is_sized_data, keeps_rules}
use Rattle.spv_types.specs.Types.{Types, form_of, number_of}
use Rattle.spv_types.specs.Typing.{defined_form, types_in, with_form}
use Rattle.spv_types.proofs.Exports.{form_append, number_lt, number_none, form_number}
use Rattle.spv_consts.proofs.WalkIds.{Differs, differ_before, differ_behind, differ_from_earlier}

-- ---- joined types

pub number_left : (ts us : Types) (id n : ℕ) → number_of ts id ≡ Some n → number_of (ts ++ us) id ≡ Some n
number_left [] us id n h = cc
number_left (t ∷ ts) us id n h = step (t.0 == id) (number_of ts id) n h (λ m e. number_left ts us id m e)
  where
    step : (b : Bool) (o : Option ℕ) (n : ℕ) → (if b then Some 0 else option_map suc o) ≡ Some n → ((m : ℕ) → o ≡ Some m → number_of (ts ++ us) id ≡ Some m) → (if b then Some 0 else option_map suc (number_of (ts ++ us) id)) ≡ Some n
    step true o n h ih = h
    step false None n h ih = cc
    step false (Some m) n h ih = rw (ih m refl) h

pub number_right : (ts us : Types) (id n : ℕ) → number_of ts id ≡ None → number_of us id ≡ Some n → number_of (ts ++ us) id ≡ Some (length ts + n)
number_right [] us id n none h = let same : n ≡ 0 + n = omega arith in h ∙ ap Some same
number_right (t ∷ ts) us id n none h = step (t.0 == id) (number_of ts id) none (λ e. number_right ts us id n e h)
  where
    step : (b : Bool) (o : Option ℕ) → (if b then Some 0 else option_map suc o) ≡ None → (o ≡ None → number_of (ts ++ us) id ≡ Some (length ts + n)) → (if b then Some 0 else option_map suc (number_of (ts ++ us) id)) ≡ Some (suc (length ts) + n)
    step true o h ih = cc
    step false None h ih = let more : suc (length ts + n) ≡ suc (length ts) + n = omega arith in rw (ih refl) (ap Some more)
    step false (Some m) h ih = cc

number_nowhere : (ts us : Types) (id : ℕ) → number_of ts id ≡ None → number_of us id ≡ None → number_of (ts ++ us) id ≡ None
number_nowhere [] us id none h = h
number_nowhere (t ∷ ts) us id none h = step (t.0 == id) (number_of ts id) none (λ e. number_nowhere ts us id e h)
  where
    step : (b : Bool) (o : Option ℕ) → (if b then Some 0 else option_map suc o) ≡ None → (o ≡ None → number_of (ts ++ us) id ≡ None) → (if b then Some 0 else option_map suc (number_of (ts ++ us) id)) ≡ None
    step true o h ih = cc
    step false None h ih = rw (ih refl) refl
    step false (Some m) h ih = cc

pub form_left : (ts us : Types) (id : ℕ) (f : Form) → form_of ts id ≡ Some f → form_of (ts ++ us) id ≡ Some f
form_left ts us id f h = form_append ts us id ∙ ap (λ (o : Option Form). option_or o (form_of us id)) h

form_right : (ts us : Types) (id : ℕ) → form_of ts id ≡ None → form_of (ts ++ us) id ≡ form_of us id
form_right ts us id h = form_append ts us id ∙ ap (λ (o : Option Form). option_or o (form_of us id)) h

-- two types with one number are one
pub same_number : (ts : Types) (a b n : ℕ) → number_of ts a ≡ Some n → number_of ts b ≡ Some n → a ≡ b
same_number [] a b n h g = cc
same_number (t ∷ ts) a b n h g = step (t.0 == a) refl (t.0 == b) refl (number_of ts a) (number_of ts b) n h g (λ m. same_number ts a b m)
  where
    step : (x : Bool) → (t.0 == a) ≡ x → (y : Bool) → (t.0 == b) ≡ y → (o p : Option ℕ) (n : ℕ) → (if x then Some 0 else option_map suc o) ≡ Some n → (if y then Some 0 else option_map suc p) ≡ Some n → ((m : ℕ) → o ≡ Some m → p ≡ Some m → a ≡ b) → a ≡ b
    step true d true e o p n h g ih = sym (eqb-true t.0 a d) ∙ eqb-true t.0 b e
    step true d false e o None n h g ih = cc
    step true d false e o (Some m) n h g ih = let zero_is : 0 ≡ n = cc in let more : suc m ≡ n = cc in absurd (omega arith)
    step false d true e None p n h g ih = cc
    step false d true e (Some m) p n h g ih = let zero_is : 0 ≡ n = cc in let more : suc m ≡ n = cc in absurd (omega arith)
    step false d false e None p n h g ih = cc
    step false d false e (Some m) None n h g ih = cc
    step false d false e (Some m) (Some k) n h g ih = let one : suc m ≡ n = cc in let other : suc k ≡ n = cc in let same : k ≡ m = omega arith in ih m refl (ap Some same)

-- ---- declared types

module _ (all : List Inst) where
  pub types_joined : (xs ys : List Inst) → types_in all (xs ++ ys) ≡ types_in all xs ++ types_in all ys
  unfolding types_in
  types_joined [] ys = refl
  types_joined (x ∷ xs) ys = rw (types_joined xs ys, append_assoc) refl

  -- an id that no type instruction has is no type
  no_number : (is : List Inst) (id : ℕ) → AllByRecursion (HasResult all) is → AllByRecursion (Differs id) is → number_of (types_in all is) id ≡ None
  unfolding types_in
  no_number [] id results apart = refl
  no_number (i ∷ is) id (result, results) (differs, apart) = by_form (defined_form all i) refl (no_number is id results apart)
    where
      other : Differs id i → (f : Form) → defined_form all i ≡ Some f → i.id ≡ id → ⊥
      other (inl none) f e same =
          let named : (is_some (defined_form all i) || is_constant i.op) ≡ true = or_left (is_some (defined_form all i)) (is_constant i.op) (ap is_some e) in
          let positive : 0 < i.id = (result named).0 in
          omega arith
      other (inr differs) f e same = differs same

      by_form : (o : Option Form) → defined_form all i ≡ o → number_of (types_in all is) id ≡ None → number_of (with_form [] i.id o ++ types_in all is) id ≡ None
      by_form None e rest = rest
      by_form (Some f) e rest = let apart_id : eqb i.id id ≡ false = ne_eqb i.id id (other differs f e) in rw (apart_id, rest) refl

  -- a type instruction's type stands behind those before it
  pub type_number : (front later : List Inst) (i : Inst) (f : Form) → AreDistinct (front ++ i ∷ later) → AllByRecursion (HasResult all) (front ++ i ∷ later) → defined_form all i ≡ Some f
      → (number_of (types_in all (front ++ i ∷ later)) i.id ≡ Some (length (types_in all front))) × (form_of (types_in all (front ++ i ∷ later)) i.id ≡ Some f)
  unfolding types_in
  type_number front later i f distinct results e =
      let none : number_of (types_in all front) i.id ≡ None = no_number front i.id (each_left (HasResult all) front (i ∷ later) results) (differ_before front later i distinct) in
      let own : types_in all (i ∷ later) ≡ (i.id, f) ∷ types_in all later = rw e refl in
      let test : eqb i.id i.id ≡ true = eq-eqb i.id i.id refl in
      let number : number_of (types_in all (i ∷ later)) i.id ≡ Some 0 = rw (own, test) refl in
      let form : form_of (types_in all (i ∷ later)) i.id ≡ Some f = rw (own, test) refl in
      let end : length (types_in all front) + 0 ≡ length (types_in all front) = omega arith in (
        ap (λ (ts : Types). number_of ts i.id) (types_joined front (i ∷ later)) ∙ number_right (types_in all front) (types_in all (i ∷ later)) i.id 0 none number ∙ ap Some end,
        ap (λ (ts : Types). form_of ts i.id) (types_joined front (i ∷ later)) ∙ form_right (types_in all front) (types_in all (i ∷ later)) i.id (number_none (types_in all front) i.id none) ∙ form,
      )

  -- and any other instruction's id is no type
  pub other_number : (front later : List Inst) (i : Inst) → AreDistinct (front ++ i ∷ later) → AllByRecursion (HasResult all) (front ++ i ∷ later) → defined_form all i ≡ None
      → number_of (types_in all (front ++ i ∷ later)) i.id ≡ None
  unfolding types_in
  other_number front later i distinct results e =
      let none : number_of (types_in all front) i.id ≡ None = no_number front i.id (each_left (HasResult all) front (i ∷ later) results) (differ_before front later i distinct) in
      let behind : number_of (types_in all later) i.id ≡ None = no_number later i.id (each_right (HasResult all) front (i ∷ later) results).1 (differ_behind front later i distinct) in
      let own : types_in all (i ∷ later) ≡ types_in all later = rw e refl in
      rw (types_joined, own) (number_nowhere (types_in all front) (types_in all later) i.id none behind)

  -- what is a result in front is a type in front, where it is a type
  pub earlier_type : (front later : List Inst) (id n : ℕ) → AreDistinct (front ++ later) → AllByRecursion (HasResult all) (front ++ later) → Contains (map (λ (j : Inst). j.id) front) id
      → number_of (types_in all (front ++ later)) id ≡ Some n → n < length (types_in all front)
  earlier_type front later id n distinct results has h = by_number (number_of (types_in all front) id) refl
    where
      joined : number_of (types_in all front ++ types_in all later) id ≡ Some n
      joined = rw (← types_joined front later) h

      by_number : (o : Option ℕ) → number_of (types_in all front) id ≡ o → n < length (types_in all front)
      by_number None e =
          let behind : number_of (types_in all later) id ≡ None = no_number later id (each_right (HasResult all) front later results) (differ_from_earlier front later id distinct has) in
          let none : number_of (types_in all front ++ types_in all later) id ≡ None = number_nowhere (types_in all front) (types_in all later) id e behind in
          let clash : Some n ≡ None = sym joined ∙ none in absurd (cc)
      by_number (Some k) e =
          let same : Some k ≡ Some n = sym (number_left (types_in all front) (types_in all later) id k e) ∙ joined in
          let k_is : k ≡ n = cc in
          let below : k < length (types_in all front) = number_lt (types_in all front) id k e in
          omega arith

  -- ---- what no breach of the rules of types says

  -- each instruction keeps the rules, by the types before it
  pub kept_at : (before front later : List Inst) (d : Inst) → type_breaches all before (front ++ d ∷ later) ≡ [] → keeps_rules all (types_in all (before ++ front)) d ≡ true
  unfolding type_breaches
  kept_at before [] later d h = rw append-nil (by_rule (keeps_rules all (types_in all before) d) h)
    where
      by_rule : (b : Bool) → (if b then [] else record { code = type_code; word = d.word } ∷ []) ++ type_breaches all (before ++ d ∷ []) later ≡ [] → b ≡ true
      by_rule true e = refl
      by_rule false e = cc
  kept_at before (j ∷ front) later d h = rw append_assoc at (kept_at (before ++ j ∷ []) front later d (by_rule (keeps_rules all (types_in all before) j) h))
    where
      by_rule : (b : Bool) → (if b then [] else record { code = type_code; word = j.word } ∷ []) ++ type_breaches all (before ++ j ∷ []) (front ++ d ∷ later) ≡ [] → type_breaches all (before ++ j ∷ []) (front ++ d ∷ later) ≡ []
      by_rule true e = e
      by_rule false e = cc

  -- so an undefined value's type is sized data among those types
  pub undef_is_sized : (ts : Types) (d : Inst) → d.op ≡ UNDEF → keeps_rules all ts d ≡ true → is_sized_data ts d.ty ≡ true
  unfolding keeps_rules defined_form
  undef_is_sized ts d op h = rw op at h

  -- data among the first types
  pub known_data : (xs ys : List Inst) (ty : ℕ) → is_data (form_of (types_in all xs) ty) ≡ true → IsAmong (types_in all (xs ++ ys)) (length (types_in all xs)) ty × (is_data (form_of (types_in all (xs ++ ys)) ty) ≡ true)
  known_data xs ys ty h = by_form (form_of (types_in all xs) ty) refl h
    where
      by_form : (o : Option Form) → form_of (types_in all xs) ty ≡ o → is_data o ≡ true → IsAmong (types_in all (xs ++ ys)) (length (types_in all xs)) ty × (is_data (form_of (types_in all (xs ++ ys)) ty) ≡ true)
      by_form None e data_is = cc
      by_form (Some f) e data_is =
          let number = form_number (types_in all xs) ty f e in
          rw (types_joined) (
            record {
              number = number.0;
              is = number_left (types_in all xs) (types_in all ys) ty number.0 number.1;
              below = number_lt (types_in all xs) ty number.0 number.1;
            },
            rw (form_left (types_in all xs) (types_in all ys) ty f e) data_is,
          )
