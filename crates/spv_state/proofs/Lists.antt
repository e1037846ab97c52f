-- Changes of one element of a list.
use Rattle.std.proofs.Common.{◌≡◌, ◌≢◌, ℕ, zero, suc, List, [], ◌∷◌, Option, Some, None, slice_get, slice_set, refl, ap}
use Rattle.std.specs.Option.{option_map}
use Rattle.spv_base.specs.Entries.{change}

pub change_other : {A : Type 0} (i j : ℕ) (g : A → A) (xs : List A) → i ≢ j → slice_get (change i g xs) j ≡ slice_get xs j
change_other i j g [] apart = refl
change_other zero zero g (x ∷ xs) apart = absurd (apart refl)
change_other zero (suc j) g (x ∷ xs) apart = refl
change_other (suc i) zero g (x ∷ xs) apart = refl
change_other (suc i) (suc j) g (x ∷ xs) apart = change_other i j g xs (λ e. apart (ap suc e))

pub change_none : {A : Type 0} (i : ℕ) (xs : List A) → change i (λ x. x) xs ≡ xs
change_none i [] = refl
change_none zero (x ∷ xs) = refl
change_none (suc i) (x ∷ xs) = ap (λ l. x ∷ l) (change_none i xs)

pub set_is_change : {A : Type 0} (i : ℕ) (x : A) (xs : List A) → slice_set xs i x ≡ change i (λ _. x) xs
set_is_change i x [] = refl
set_is_change zero x (y ∷ xs) = refl
set_is_change (suc i) x (y ∷ xs) = ap (λ l. y ∷ l) (set_is_change i x xs)

-- a change that does the same to the element that is there
pub change_same : {A : Type 0} (i : ℕ) (f g : A → A) (xs : List A) → ((x : A) → slice_get xs i ≡ Some x → f x ≡ g x) → change i f xs ≡ change i g xs
change_same i f g [] same = refl
change_same zero f g (x ∷ xs) same = ap (λ y. y ∷ xs) (same x refl)
change_same (suc i) f g (x ∷ xs) same = ap (λ l. x ∷ l) (change_same i f g xs same)

-- and the one that was there before
pub record Changed {A : Type 0} (g : A → A) (o : Option A) (y : A) : Type 0 where
  pub before : A
  pub at : o ≡ Some before
  pub is : g before ≡ y

pub changed_from : {A : Type 0} (g : A → A) (o : Option A) (y : A) → option_map g o ≡ Some y → Changed g o y
changed_from g None y h = absurd (cc)
changed_from g (Some x) y h = let is : g x ≡ y = cc in record { before = x; at = refl; is = is }
