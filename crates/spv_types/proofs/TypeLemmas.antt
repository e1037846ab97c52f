-- What is found under an id, and what the types before one give.
use Rattle.std.proofs.Common.{◌≡◌, ◌≢◌, ℕ, zero, suc, ◌<◌, ◌≤◌, ◌==◌, Bool, true, false, ltb, ◌∙◌, [], ◌∷◌, ◌++◌, length, get_or, Option, Some, None, refl, sym, ap, arith}
use Rattle.std.proofs.lemmas.Bool.{eqb-true}
use Rattle.std.specs.Prelude.{if◌then◌else◌}
use Rattle.std.specs.Option.{option_map, option_map_or, option_or}
use Rattle.spv_index.proofs.Exports.{place_lt, place_none, place_push}
use Rattle.spv_types.specs.declared.forms.Form.{Form}
use Rattle.spv_types.specs.Types.{Types, number_of, form_of, in_first, found_among}

pub number_lt : (ts : Types) (id n : ℕ) → number_of ts id ≡ Some n → n < length ts
number_lt ts id n h = place_lt ts id n h

pub number_form : (ts : Types) (id n : ℕ) (d : ℕ × Form) → number_of ts id ≡ Some n → form_of ts id ≡ Some (get_or ts n d).1
number_form [] id n d h = cc
number_form (t ∷ ts) id n d h = step (t.0 == id) t (number_of ts id) n ts (form_of ts id) d h (λ m. number_form ts id m d)
  where
    step : (b : Bool) (t : ℕ × Form) (o : Option ℕ) (n : ℕ) (ts : Types) (f : Option Form) (d : ℕ × Form) → (if b then Some 0 else option_map suc o) ≡ Some n → ((m : ℕ) → o ≡ Some m → f ≡ Some (get_or ts m d).1) → (if b then Some t.1 else f) ≡ Some (get_or (t ∷ ts) n d).1
    step true t o n ts f d h ih = let e : 0 ≡ n = cc in rw (← e) refl
    step false t None n ts f d h ih = cc
    step false t (Some m) n ts f d h ih = let e : suc m ≡ n = cc in rw (← e) (ih m refl)

pub number_none : (ts : Types) (id : ℕ) → number_of ts id ≡ None → form_of ts id ≡ None
number_none ts id h = place_none ts id h

pub number_push : (ts : Types) (t : ℕ × Form) (id : ℕ) → number_of (ts ++ t ∷ []) id ≡ option_or (number_of ts id) (if t.0 == id then Some (length ts) else None)
number_push ts t id = place_push ts t id

pub number_less : (m n : ℕ) → m < suc n → (m == n) ≡ false → m < n
number_less m n l e = let apart : m ≢ n = grind arith in omega arith

lt-by_test : (m n : ℕ) → ltb m n ≡ true → m < n
lt-by_test m n e = grind arith

le-by_test : (m n : ℕ) → ltb m n ≡ false → n ≤ m
le-by_test m n e = grind arith

module _ {A : Type 0} (none : A) (step : (ℕ → A) → Form → A) where
  -- among the first n types a type before number n is what its form makes of the types before it
  pub in_first-found : (ts : Types) (n m id : ℕ) → number_of ts id ≡ Some m → m < n → in_first none step ts n id ≡ option_map_or (step (in_first none step ts m)) (form_of ts id) none
  unfolding in_first
  in_first-found ts zero m id h l = absurd (omega arith)
  in_first-found ts (suc n) m id h l = rw h (go ts n m id l (λ k. in_first-found ts n m id h k) (m == n) refl)
    where
      go : (ts : Types) (n m id : ℕ) → m < suc n → (m < n → in_first none step ts n id ≡ option_map_or (step (in_first none step ts m)) (form_of ts id) none) → (b : Bool) → (m == n) ≡ b
          → (if b then option_map_or (step (in_first none step ts n)) (form_of ts id) none else in_first none step ts n id) ≡ option_map_or (step (in_first none step ts m)) (form_of ts id) none
      go ts n m id l ih true e = let same : m ≡ n = eqb-true m n e in rw same refl
      go ts n m id l ih false e = ih (number_less m n l e)

  -- and any other has none
  pub in_first-missing : (ts : Types) (n m id : ℕ) → number_of ts id ≡ Some m → n ≤ m → in_first none step ts n id ≡ none
  unfolding in_first
  in_first-missing ts zero m id h l = refl
  in_first-missing ts (suc n) m id h l = rw h (go ts n m id l (in_first-missing ts n m id h (omega arith)) (m == n) refl)
    where
      go : (ts : Types) (n m id : ℕ) → suc n ≤ m → in_first none step ts n id ≡ none → (b : Bool) → (m == n) ≡ b → (if b then option_map_or (step (in_first none step ts n)) (form_of ts id) none else in_first none step ts n id) ≡ none
      go ts n m id l ih true e = let same : m ≡ n = eqb-true m n e in absurd (omega arith)
      go ts n m id l ih false e = ih

  pub in_first-unknown : (ts : Types) (n id : ℕ) → number_of ts id ≡ None → in_first none step ts n id ≡ none
  unfolding in_first
  in_first-unknown ts zero id h = refl
  in_first-unknown ts (suc n) id h = rw h (in_first-unknown ts n id h)

  -- what a type among the first n types gives
  pub in_first-is : (ts : Types) (n id : ℕ) → in_first none step ts n id ≡ option_map_or (λ (f : ℕ × Form). step (in_first none step ts f.0) f.1) (found_among ts n id) none
  in_first-is ts n id = go ts n id (number_of ts id) refl
    where
      mapped : (ts : Types) (o : Option Form) (m : ℕ) → option_map_or (step (in_first none step ts m)) o none ≡ option_map_or (λ (f : ℕ × Form). step (in_first none step ts f.0) f.1) (option_map (λ f. (m, f)) o) none
      mapped ts None m = refl
      mapped ts (Some f) m = refl

      some : (ts : Types) (n m id : ℕ) (b : Bool) → ltb m n ≡ b → number_of ts id ≡ Some m → in_first none step ts n id ≡ option_map_or (λ (f : ℕ × Form). step (in_first none step ts f.0) f.1) (if b then option_map (λ (f : Form). (m, f)) (form_of ts id) else None) none
      some ts n m id true e h = in_first-found ts n m id h (lt-by_test m n e) ∙ mapped ts (form_of ts id) m
      some ts n m id false e h = in_first-missing ts n m id h (le-by_test m n e)

      go : (ts : Types) (n id : ℕ) (o : Option ℕ) → number_of ts id ≡ o → in_first none step ts n id ≡ option_map_or (λ (f : ℕ × Form). step (in_first none step ts f.0) f.1) (found_among ts n id) none
      go ts n id None h = rw h (in_first-unknown ts n id h)
      go ts n id (Some m) h = rw h (some ts n m id (ltb m n) refl h)

pub found_is : (ts : Types) (n m id : ℕ) → number_of ts id ≡ Some m → m < n → found_among ts n id ≡ option_map (λ (f : Form). (m, f)) (form_of ts id)
found_is ts n m id h l = rw h (grind arith)

pub found_read : (ts us : Types) (n m id : ℕ) (x : ℕ × Form) → ts ≡ us → number_of us id ≡ Some m → m < n → x ≡ get_or ts m x → Some (m, x.1) ≡ found_among us n id
found_read ts us n m id x same h l e =
    let f = number_form us id m x h in
    let g : get_or us m x ≡ x = rw (← same) (sym e) in
    sym (found_is us n m id h l ∙ ap (option_map (λ (f : Form). (m, f))) (f ∙ ap (λ (y : ℕ × Form). Some y.1) g))
