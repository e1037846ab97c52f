-- Lists: what holds of each element, what stands at a place, what is left from one on, and one element more.
use Rattle.std.proofs.Common.{◌≡◌, ◌⊎◌, ◌++◌, ◌<◌, ◌-◌, ℕ, zero, suc, Bool, true, false, List, [], ◌∷◌, Some, drop, take, length, length-drop, nat_eq, replicate, slice_get, slice_set, inl, inr, refl, ap, sym, subst, arith}
use Rattle.std.specs.List.{AllByRecursion, Contains}
use Rattle.std.proofs.lemmas.Bool.Decides.{nat_tests}
use Rattle.std.proofs.lemmas.List.{nil_from_length, take_all}

-- ---- each element

pub each_weaker : {X : Type 0} (P Q : X → Type 0) → ((x : X) → P x → Q x) → (xs : List X) → AllByRecursion P xs → AllByRecursion Q xs
each_weaker P Q weaker [] h = tt
each_weaker P Q weaker (x ∷ xs) (first, rest) = (weaker x first, each_weaker P Q weaker xs rest)

-- what two facts of each element give together
pub both_each : {X : Type 0} (P Q R : X → Type 0) → ((x : X) → P x → Q x → R x) → (xs : List X) → AllByRecursion P xs → AllByRecursion Q xs → AllByRecursion R xs
both_each P Q R give [] p q = tt
both_each P Q R give (x ∷ xs) (p, ps) (q, qs) = (give x p q, both_each P Q R give xs ps qs)

pub each_left : {X : Type 0} (P : X → Type 0) (xs ys : List X) → AllByRecursion P (xs ++ ys) → AllByRecursion P xs
each_left P [] ys h = tt
each_left P (x ∷ xs) ys (first, rest) = (first, each_left P xs ys rest)

pub each_right : {X : Type 0} (P : X → Type 0) (xs ys : List X) → AllByRecursion P (xs ++ ys) → AllByRecursion P ys
each_right P [] ys h = h
each_right P (x ∷ xs) ys (first, rest) = each_right P xs ys rest

pub each_at : {X : Type 0} (P : X → Type 0) (xs : List X) (k : ℕ) (x : X) → AllByRecursion P xs → slice_get xs k ≡ Some x → P x
each_at P [] k x h at = absurd (cc)
each_at P (y ∷ xs) zero x h at = let same : y ≡ x = cc in subst P same h.0
each_at P (y ∷ xs) (suc k) x h at = each_at P xs k x h.1 at

-- ---- places

pub element_at : {A : Type 0} (xs : List A) (i : ℕ) → i < length xs → (x : A) × (slice_get xs i ≡ Some x)
element_at [] i h = absurd (omega (arith, h))
element_at (x ∷ xs) zero h = (x, refl)
element_at (x ∷ xs) (suc i) h = element_at xs i (omega (arith, h))

pub get_replicate : {A : Type 0} (n i : ℕ) (x y : A) → slice_get (replicate n x) i ≡ Some y → y ≡ x
get_replicate zero i x y h = absurd cc
get_replicate (suc n) zero x y h = cc
get_replicate (suc n) (suc i) x y h = get_replicate n i x y h

pub set_same : {A : Type 0} (xs : List A) (i : ℕ) (x : A) → slice_get xs i ≡ Some x → slice_set xs i x ≡ xs
set_same [] i x h = refl
set_same (y ∷ xs) zero x h = let e : y ≡ x = cc in ap (λ z. z ∷ xs) (sym e)
set_same (y ∷ xs) (suc i) x h = ap (λ ys. y ∷ ys) (set_same xs i x h)

-- an element that is set and put back
pub set_back : {A : Type 0} (xs : List A) (i : ℕ) (x y : A) → slice_get xs i ≡ Some x → slice_set (slice_set xs i y) i x ≡ xs
set_back [] i x y h = refl
set_back (z ∷ zs) zero x y h = let e : x ≡ z = cc in ap (λ w. w ∷ zs) e
set_back (z ∷ zs) (suc i) x y h = ap (λ ws. z ∷ ws) (set_back zs i x y h)

pub drop_here : {X : Type 0} (xs : List X) (n : ℕ) (x : X) → slice_get xs n ≡ Some x → drop n xs ≡ x ∷ drop (suc n) xs
drop_here [] n x at = absurd (cc)
drop_here (y ∷ ys) zero x at = let same : y ≡ x = cc in ap (λ z. z ∷ ys) same
drop_here (y ∷ ys) (suc n) x at = drop_here ys n x at

-- what is left, up to the end
pub rest_of : {X : Type 0} (xs : List X) (n : ℕ) → take (length xs - n) (drop n xs) ≡ drop n xs
rest_of xs n = take_all (length xs - n) (drop n xs) (omega (arith, length-drop n xs))

-- ---- one more element, at the end or at the head

pub get_snoc : {A : Type 0} (xs : List A) (x y : A) (k : ℕ) → slice_get xs k ≡ Some y → slice_get (xs ++ x ∷ []) k ≡ Some y
get_snoc [] x y k h = absurd (cc)
get_snoc (z ∷ xs) x y zero h = h
get_snoc (z ∷ xs) x y (suc k) h = get_snoc xs x y k h

pub last_get : {A : Type 0} (xs : List A) (x : A) → slice_get (xs ++ x ∷ []) (length xs) ≡ Some x
last_get [] x = refl
last_get (z ∷ xs) x = last_get xs x

pub snoc_get : {A : Type 0} (xs : List A) (x y : A) (k : ℕ) → slice_get (xs ++ x ∷ []) k ≡ Some y → (slice_get xs k ≡ Some y) ⊎ ((k ≡ length xs) × (y ≡ x))
snoc_get [] x y zero h = let same : x ≡ y = cc in inr (refl, sym same)
snoc_get [] x y (suc k) h = absurd (cc)
snoc_get (z ∷ xs) x y zero h = inl h
snoc_get (z ∷ xs) x y (suc k) h =
    elim (snoc_get xs x y k h) [
      | inl old ↦ inl old
      | inr is ↦ inr (ap suc is.0, is.1)
    ]

pub contains_later : {X : Type 0} (y x : X) (xs : List X) → Contains xs x → Contains (y ∷ xs) x
contains_later y x xs (k, below, is) = (suc k, omega (arith, below), is)

-- ---- empty lists

pub both_empty : {X : Type 0} (xs ys : List X) → xs ++ ys ≡ [] → (xs ≡ []) × (ys ≡ [])
both_empty [] ys e = (refl, e)
both_empty (x ∷ xs) ys e = absurd (cc)

pub some_when : (b : Bool) (bs : List ℕ) → b ≡ nat_eq (length bs) 0 → b ≡ false → 0 < length bs
some_when b bs e h = grind (arith, nat_tests)

pub empty_when : (b : Bool) (bs : List ℕ) → b ≡ nat_eq (length bs) 0 → b ≡ true → bs ≡ []
empty_when b bs e h = nil_from_length bs (grind (arith, nat_tests))
