-- Whether some elements of a list pass a test, and none.
use Rattle.std.proofs.Common.{◌≡◌, ◌≢◌, ◌∙◌, ◌⊎◌, inl, inr, ℕ, zero, suc, Some, Bool, true, false, cond, ◌||◌, ◌==◌, ◌+◌, ◌<◌, ◌≤◌, ◌++◌, take, get_or, List, [], ◌∷◌, length, map, refl, ap, sym, subst, arith}
use Rattle.std.proofs.lemmas.Bool.{cases_lt}
use Rattle.std.proofs.lemmas.Bool.Decides.{nat_tests}
use Rattle.std.proofs.lemmas.List.{append-nil, get_or-map, map-append, nil_from_length, take_more}
use Rattle.std.proofs.lemmas.List.Elements.{filter-append}
use Rattle.std.specs.Prelude.{filter, slice_get, slice_set}
use Rattle.std.proofs.lemmas.Option.{get_or_from_slice_get}
use Rattle.std.specs.List.{list_any}
use Rattle.spv_hits.specs.Hits.{has_some}

some_by : {X : Type 0} (f : X → ℕ) (b any : Bool) (x : X) (rest : List X) → has_some (map f rest) ≡ any → has_some (map f (cond b (x ∷ rest) rest)) ≡ (b || any)
some_by f true any x rest is = refl
some_by f false any x rest is = is

pub some_number : {X : Type 0} (f : X → ℕ) (p : X → Bool) (xs : List X) → has_some (map f (filter p xs)) ≡ list_any p xs
some_number f p [] = refl
some_number f p (x ∷ xs) = some_by f (p x) (list_any p xs) x (filter p xs) (some_number f p xs)

none_by : {X : Type 0} (b : Bool) (x : X) (rest : List X) → b ≡ false → rest ≡ [] → cond b (x ∷ rest) rest ≡ []
none_by b x rest e none = ap (λ c. cond c (x ∷ rest) rest) e ∙ none

pub none_pass : {X : Type 0} (p : X → Bool) (xs : List X) → ((x : X) → p x ≡ false) → filter p xs ≡ []
none_pass p [] fails = refl
none_pass p (x ∷ xs) fails = none_by (p x) x (filter p xs) (fails x) (none_pass p xs fails)

pub filter_same : {X : Type 0} (p q : X → Bool) (xs : List X) → ((x : X) → p x ≡ q x) → filter p xs ≡ filter q xs
filter_same p q [] same = refl
filter_same p q (x ∷ xs) same = ap (λ b. cond b (x ∷ filter p xs) (filter p xs)) (same x) ∙ ap (λ r. cond (q x) (x ∷ r) r) (filter_same p q xs same)

pub none_there : {X : Type 0} (xs : List X) → (length xs == 0) ≡ true → xs ≡ []
none_there xs e = nil_from_length xs (zero_is (length xs) e)
  where
    zero_is : (n : ℕ) → (n == 0) ≡ true → n ≡ 0
    zero_is n e = grind (arith, nat_tests)

-- ---- as a list is gone through

picked_more : {X : Type 0} (f : X → ℕ) (p : X → Bool) (i : ℕ) (xs : List X) (x : X) → i < length xs → x ≡ get_or xs i x
    → map f (filter p (take (i + 1) xs)) ≡ map f (filter p (take i xs)) ++ map f (filter p (x ∷ []))
picked_more f p i xs x l e =
    ap (λ ys. map f (filter p ys)) (take_more xs i x l ∙ ap (λ y. take i xs ++ y ∷ []) (sym e))
    ∙ ap (map f) (filter-append p (take i xs) (x ∷ []))
    ∙ map-append f (filter p (take i xs)) (filter p (x ∷ []))

-- the next element passes
pub picked_yes : {X : Type 0} (f : X → ℕ) (p : X → Bool) (i : ℕ) (xs : List X) (x : X) (numbers more : List ℕ) → i < length xs → x ≡ get_or xs i x → p x ≡ true
    → numbers ≡ map f (filter p (take i xs)) → more ≡ numbers ++ f x ∷ [] → more ≡ map f (filter p (take (i + 1) xs))
picked_yes f p i xs x numbers more l e passes so push =
    push ∙ ap (λ ns. ns ++ f x ∷ []) so ∙ sym (picked_more f p i xs x l e ∙ ap (λ b. map f (filter p (take i xs)) ++ map f (cond b (x ∷ []) [])) passes)

-- it doesn't
pub picked_no : {X : Type 0} (f : X → ℕ) (p : X → Bool) (i : ℕ) (xs : List X) (x : X) (numbers : List ℕ) → i < length xs → x ≡ get_or xs i x → p x ≡ false
    → numbers ≡ map f (filter p (take i xs)) → numbers ≡ map f (filter p (take (i + 1) xs))
picked_no f p i xs x numbers l e fails so =
    so ∙ sym (picked_more f p i xs x l e ∙ ap (λ b. map f (filter p (take i xs)) ++ map f (cond b (x ∷ []) [])) fails ∙ append-nil (map f (filter p (take i xs))))

-- what stands at a place of the images of a list
pub placed : {Y Z : Type 0} (h : Y → Z) (i : ℕ) (zs : List Z) (ys : List Y) (z : Z) (y : Y) → zs ≡ map h ys → i < length ys → z ≡ get_or zs i z → y ≡ get_or ys i y → z ≡ h y
placed h i zs ys z y e l here there = here ∙ ap (λ xs. get_or xs i z) e ∙ get_or-map h ys i y z l ∙ ap h (sym there)

-- ---- elements by their places

-- what stands at a place of a list where one element was put: that one, or what stood there
pub put_or_left : {X : Type 0} (xs : List X) (n m : ℕ) (x y : X) → slice_get (slice_set xs n x) m ≡ Some y → ((m ≡ n) × (y ≡ x)) ⊎ ((m ≢ n) × (slice_get xs m ≡ Some y))
put_or_left [] n m x y e = absurd (cc)
put_or_left (z ∷ zs) zero zero x y e = inl (refl, cc)
put_or_left (z ∷ zs) zero (suc m) x y e = inr ((λ same. omega arith), e)
put_or_left (z ∷ zs) (suc n) zero x y e = inr ((λ same. omega arith), e)
put_or_left (z ∷ zs) (suc n) (suc m) x y e = more (put_or_left zs n m x y e)
  where
    more : ((m ≡ n) × (y ≡ x)) ⊎ ((m ≢ n) × (slice_get zs m ≡ Some y)) → ((suc m ≡ suc n) × (y ≡ x)) ⊎ ((suc m ≢ suc n) × (slice_get zs m ≡ Some y))
    more (inl here) = inl (ap suc here.0, here.1)
    more (inr other) = inr ((λ same. other.0 (omega arith)), other.1)

-- one that is read by its place
pub read_at : {X : Type 0} (xs : List X) (n : ℕ) (x y : X) → n < length xs → x ≡ get_or xs n x → slice_get xs n ≡ Some y → x ≡ y
read_at xs n x y within read at = read ∙ get_or_from_slice_get xs n y x at

neither : (a b : Bool) → (a || b) ≡ false → a ≡ false
neither true b e = e
neither false b e = refl

nor_other : (a b : Bool) → (a || b) ≡ false → b ≡ false
nor_other true b e = absurd (cc)
nor_other false b e = e

-- no element passes a test, so none does at a place
pub none_at : {X : Type 0} (p : X → Bool) (xs : List X) (n : ℕ) (x : X) → list_any p xs ≡ false → slice_get xs n ≡ Some x → p x ≡ false
none_at p [] n x none at = absurd (cc)
none_at p (y ∷ ys) zero x none at =
    let same : y ≡ x = cc in
    ap p (sym same) ∙ neither (p y) (list_any p ys) none
none_at p (y ∷ ys) (suc n) x none at = none_at p ys n x (nor_other (p y) (list_any p ys) none) at

-- images that are the same where no element passes a test
pub images_same : {X Y : Type 0} (p : X → Bool) (f h : X → Y) (xs : List X) → ((x : X) → p x ≡ false → f x ≡ h x) → list_any p xs ≡ false → map f xs ≡ map h xs
images_same p f h [] same none = refl
images_same p f h (x ∷ xs) same none =
    ap (λ y. y ∷ map f xs) (same x (neither (p x) (list_any p xs) none)) ∙ ap (λ ys. h x ∷ ys) (images_same p f h xs same (nor_other (p x) (list_any p xs) none))

-- a test that no element passes
pub none_any : {X : Type 0} (p : X → Bool) (xs : List X) → ((x : X) → p x ≡ false) → list_any p xs ≡ false
none_any p [] fails = refl
none_any p (x ∷ xs) fails = ap (λ b. b || list_any p xs) (fails x) ∙ none_any p xs fails

pub images_all : {X Y : Type 0} (f h : X → Y) (xs : List X) → ((x : X) → f x ≡ h x) → map f xs ≡ map h xs
images_all f h [] same = refl
images_all f h (x ∷ xs) same = ap (λ y. y ∷ map f xs) (same x) ∙ ap (λ ys. h x ∷ ys) (images_all f h xs same)

-- a list where one element was put is the same behind it
pub set_behind : {X : Type 0} (xs : List X) (n m : ℕ) (x : X) → n < m → slice_get (slice_set xs n x) m ≡ slice_get xs m
set_behind [] n m x l = refl
set_behind (y ∷ ys) zero zero x l = absurd (omega (arith, l))
set_behind (y ∷ ys) zero (suc m) x l = refl
set_behind (y ∷ ys) (suc n) zero x l = absurd (omega (arith, l))
set_behind (y ∷ ys) (suc n) (suc m) x l = set_behind ys n m x (omega (arith, l))

-- what holds of the elements of two lists before a place, and of those there, holds of one more
module _ {X Y : Type 0} (P : ℕ → X → Y → Type 0) (xs : List X) (n : ℕ) (x : X) (within : n < length xs) (read : x ≡ get_or xs n x) where
  pub one_more : (ys : List Y) → ((m : ℕ) (w : X) (z : Y) → m < n → slice_get xs m ≡ Some w → slice_get ys m ≡ Some z → P m w z) → ((z : Y) → slice_get ys n ≡ Some z → P n x z)
      → (m : ℕ) (w : X) (z : Y) → m < n + 1 → slice_get xs m ≡ Some w → slice_get ys m ≡ Some z → P m w z
  one_more ys before here m w z l at there = by_place (cases_lt m n)
    where
      by_place : (m < n) ⊎ (n ≤ m) → P m w z
      by_place (inl below) = before m w z below at there
      by_place (inr above) =
          let same : m ≡ n = omega arith in
          let is : x ≡ w = read_at xs n x w within read (subst (λ k. slice_get xs k ≡ Some w) same at) in
          subst (λ k. P k w z) (sym same) (subst (λ v. P n v z) is (here z (subst (λ k. slice_get ys k ≡ Some z) same there)))

  -- one that is put there
  pub one_put : (ys : List Y) (y : Y) → ((m : ℕ) (w : X) (z : Y) → m < n → slice_get xs m ≡ Some w → slice_get ys m ≡ Some z → P m w z) → P n x y
      → (m : ℕ) (w : X) (z : Y) → m < n + 1 → slice_get xs m ≡ Some w → slice_get (slice_set ys n y) m ≡ Some z → P m w z
  one_put ys y before here =
      one_more (slice_set ys n y) (λ m w z l at there. before m w z l at (left m z l (put_or_left ys n m y z there))) (λ z there. put z (put_or_left ys n n y z there))
    where
      left : (m : ℕ) (z : Y) → m < n → ((m ≡ n) × (z ≡ y)) ⊎ ((m ≢ n) × (slice_get ys m ≡ Some z)) → slice_get ys m ≡ Some z
      left m z l (inl same) = absurd (omega (arith, same.0))
      left m z l (inr other) = other.1

      put : (z : Y) → ((n ≡ n) × (z ≡ y)) ⊎ ((n ≢ n) × (slice_get ys n ≡ Some z)) → P n x z
      put z (inl same) = subst (P n x) (sym same.1) here
      put z (inr other) = absurd (other.0 refl)

-- what was marked, where one mark more is at most taken away
pub still_marked : (marks old : List Bool) (n m : ℕ) (mark : Bool) → (mark ≡ true → slice_get marks n ≡ Some true) → ((k : ℕ) → slice_get marks k ≡ Some true → slice_get old k ≡ Some true)
    → ((m ≡ n) × (true ≡ mark)) ⊎ ((m ≢ n) × (slice_get marks m ≡ Some true)) → slice_get old m ≡ Some true
still_marked marks old n m mark was kept (inl here) = subst (λ k. slice_get old k ≡ Some true) (sym here.0) (kept n (was (sym here.1)))
still_marked marks old n m mark was kept (inr other) = kept m other.1
