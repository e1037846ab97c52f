-- What stands under a number in a longer list, and the place of the first entry under a number.
use Rattle.std.proofs.Common.{◌≡◌, ℕ, zero, suc, ◌<◌, ◌==◌, Bool, true, false, List, [], ◌∷◌, ◌++◌, length, Option, Some, None, refl, arith}
use Rattle.std.specs.Prelude.{if◌then◌else◌}
use Rattle.std.specs.Option.{option_map, option_or}
use Rattle.spv_base.specs.Entries.{reads}
use Rattle.spv_index.specs.Firsts.{place_of, slot}

pub none_pushed : {V : Type 0} (slots : List (Option V)) (q : ℕ) → slot (slots ++ None ∷ []) q ≡ slot slots q
none_pushed [] zero = refl
none_pushed [] (suc q) = refl
none_pushed (s ∷ slots) zero = refl
none_pushed (s ∷ slots) (suc q) = none_pushed slots q

pub place_lt : {V : Type 0} (es : List (ℕ × V)) (number n : ℕ) → place_of es number ≡ Some n → n < length es
place_lt [] number n h = cc
place_lt (e ∷ es) number n h = step (e.0 == number) (place_of es number) n (length es) h (λ m. place_lt es number m)
  where
    step : (b : Bool) (o : Option ℕ) (n k : ℕ) → (if b then Some 0 else option_map suc o) ≡ Some n → ((m : ℕ) → o ≡ Some m → m < k) → n < suc k
    step true o n k h ih = let e : 0 ≡ n = cc in omega arith
    step false None n k h ih = cc
    step false (Some m) n k h ih = let e : suc m ≡ n = cc in let l = ih m refl in omega arith

pub place_none : {V : Type 0} (es : List (ℕ × V)) (number : ℕ) → place_of es number ≡ None → reads number es ≡ None
place_none [] number h = refl
place_none {V} (e ∷ es) number h = step (e.0 == number) (place_of es number) (reads number es) h (place_none es number)
  where
    step : (b : Bool) (o : Option ℕ) (v : Option V) → (if b then Some 0 else option_map suc o) ≡ None → (o ≡ None → v ≡ None) → (if b then Some e.1 else v) ≡ None
    step true o v h ih = cc
    step false None v h ih = ih refl
    step false (Some m) v h ih = cc

pub place_push : {V : Type 0} (es : List (ℕ × V)) (e : ℕ × V) (number : ℕ)
    → place_of (es ++ e ∷ []) number ≡ option_or (place_of es number) (if e.0 == number then Some (length es) else None)
place_push [] e number = refl
place_push (d ∷ es) e number = step (d.0 == number) (e.0 == number) (length es) (place_of es number) _ (place_push es e number)
  where
    step : (b c : Bool) (k : ℕ) (o p : Option ℕ) → p ≡ option_or o (if c then Some k else None) → (if b then Some 0 else option_map suc p) ≡ option_or (if b then Some 0 else option_map suc o) (if c then Some (suc k) else None)
    step true c k o p h = refl
    step false true k None p h = rw h refl
    step false false k None p h = rw h refl
    step false c k (Some m) p h = rw h refl
