-- Elements of lists by their numbers, and ids by theirs.
use Rattle.std.proofs.Common.{◌≡◌, ◌∙◌, ℕ, zero, suc, ◌==◌, Bool, true, false, cond, List, [], ◌∷◌, ◌++◌, Option, Some, None, map, slice_get, refl, sym, ap, subst}
use Rattle.std.proofs.lemmas.Bool.{eq-eqb, eqb-true}
use Rattle.std.proofs.lemmas.Option.{get_or_from_slice_get, slice_get-get_or, slice_get-map, slice_get_within}
use Rattle.std.specs.Prelude.{find}
use Rattle.std.specs.List.{Contains, filter}
use Rattle.std.specs.Option.{option_map}
use Rattle.spv_base.specs.Entries.{reads}
use Rattle.spv_frame.specs.Registers.{number_of}
use Rattle.spv_plans.specs.Members.{leading}

-- ---- elements

pub map_at : {X Y : Type 0} (f : X → Y) (xs : List X) (n : ℕ) (x : X) → slice_get xs n ≡ Some x → slice_get (map f xs) n ≡ Some (f x)
map_at f xs n x h = slice_get-map f xs n ∙ ap (option_map f) h

pub map_from : {X Y : Type 0} (f : X → Y) (xs : List X) (n : ℕ) (y : Y) → slice_get (map f xs) n ≡ Some y → (x : X) × (slice_get xs n ≡ Some x) × (f x ≡ y)
map_from {X} {Y} f xs n y h = by_element (slice_get xs n) refl (sym (slice_get-map f xs n) ∙ h)
  where
    by_element : (o : Option X) → slice_get xs n ≡ o → option_map f o ≡ Some y → (x : X) × (slice_get xs n ≡ Some x) × (f x ≡ y)
    by_element None e g = absurd (cc)
    by_element (Some x) e g = let same : f x ≡ y = cc in (x, e, same)

pub contains_at : {X : Type 0} (xs : List X) (x : X) → Contains xs x → (k : ℕ) × (slice_get xs k ≡ Some x)
contains_at xs x h = (h.0, slice_get-get_or xs h.0 x h.1 ∙ ap Some h.2)

pub at_contains : {X : Type 0} (xs : List X) (k : ℕ) (x : X) → slice_get xs k ≡ Some x → Contains xs x
at_contains xs k x h = (k, slice_get_within xs k x h, get_or_from_slice_get xs k x x h)

pub same_element : {X : Type 0} (o : Option X) (x y : X) → o ≡ Some x → o ≡ Some y → x ≡ y
same_element o x y h g = cc

-- an element that passes a test
pub filtered : {X : Type 0} (p : X → Bool) (xs : List X) (n : ℕ) (x : X) → slice_get (filter p xs) n ≡ Some x → (k : ℕ) × (slice_get xs k ≡ Some x) × (p x ≡ true)
filtered p [] n x h = absurd (cc)
filtered {X} p (y ∷ ys) n x h = by_test (p y) refl n h (λ m. filtered p ys m x)
  where
    later : (k : ℕ) × (slice_get ys k ≡ Some x) × (p x ≡ true) → (k : ℕ) × (slice_get (y ∷ ys) k ≡ Some x) × (p x ≡ true)
    later f = (suc f.0, f.1, f.2)

    by_test : (b : Bool) → p y ≡ b → (m : ℕ) → slice_get (cond b (y ∷ filter p ys) (filter p ys)) m ≡ Some x
        → ((j : ℕ) → slice_get (filter p ys) j ≡ Some x → (k : ℕ) × (slice_get ys k ≡ Some x) × (p x ≡ true)) → (k : ℕ) × (slice_get (y ∷ ys) k ≡ Some x) × (p x ≡ true)
    by_test true e zero g rest = let same : y ≡ x = cc in (0, g, ap p (sym same) ∙ e)
    by_test true e (suc m) g rest = later (rest m g)
    by_test false e m g rest = later (rest m g)

pub filtered_there : {X : Type 0} (p : X → Bool) (xs : List X) (k : ℕ) (x : X) → slice_get xs k ≡ Some x → p x ≡ true → (n : ℕ) × (slice_get (filter p xs) n ≡ Some x)
filtered_there p [] k x at h = absurd (cc)
filtered_there p (y ∷ ys) zero x at h =
    let same : y ≡ x = cc in
    let test : p y ≡ true = ap p same ∙ h in
    (0, rw test at)
filtered_there {X} p (y ∷ ys) (suc k) x at h = by_test (p y) (filtered_there p ys k x at h)
  where
    by_test : (b : Bool) → (n : ℕ) × (slice_get (filter p ys) n ≡ Some x) → (n : ℕ) × (slice_get (cond b (y ∷ filter p ys) (filter p ys)) n ≡ Some x)
    by_test true rest = (suc rest.0, rest.1)
    by_test false rest = rest

pub leading_at : {X : Type 0} (p : X → Bool) (xs : List X) (n : ℕ) (x : X) → slice_get (leading p xs) n ≡ Some x → slice_get xs n ≡ Some x
leading_at p [] n x h = h
leading_at {X} p (y ∷ ys) n x h = by_test (p y) n h (λ m. leading_at p ys m x)
  where
    by_test : (b : Bool) (m : ℕ) → slice_get (cond b (y ∷ leading p ys) []) m ≡ Some x → ((j : ℕ) → slice_get (leading p ys) j ≡ Some x → slice_get ys j ≡ Some x) → slice_get (y ∷ ys) m ≡ Some x
    by_test true zero g rest = g
    by_test true (suc m) g rest = rest m g
    by_test false m g rest = absurd (cc)

-- the first element that passes a test
pub record First {X : Type 0} (p : X → Bool) (xs : List X) : Type 0 where
  pub number : ℕ
  pub element : X
  pub at : slice_get xs number ≡ Some element
  pub found : find p xs ≡ Some element
  pub passes : p element ≡ true

pub first_there : {X : Type 0} (p : X → Bool) (xs : List X) (k : ℕ) (x : X) → slice_get xs k ≡ Some x → p x ≡ true → First p xs
first_there p [] k x at h = absurd (cc)
first_there p (y ∷ ys) zero x at h =
    let same : y ≡ x = cc in
    let test : p y ≡ true = ap p same ∙ h in
    record { number = 0; element = y; at = refl; found = rw test refl; passes = test }
first_there {X} p (y ∷ ys) (suc k) x at h = by_test (p y) refl (first_there p ys k x at h)
  where
    by_test : (b : Bool) → p y ≡ b → First p ys → First p (y ∷ ys)
    by_test true e rest = record { number = 0; element = y; at = refl; found = rw e refl; passes = e }
    by_test false e rest = record { number = suc rest.number; element = rest.element; at = rest.at; found = rw e rest.found; passes = rest.passes }

-- ---- ids

-- an id stands where its number says
pub number_gets : (id : ℕ) (ks : List ℕ) (n : ℕ) → number_of id ks ≡ Some n → slice_get ks n ≡ Some id
number_gets id [] n h = absurd (cc)
number_gets id (k ∷ ks) n h = by_test (k == id) refl h (number_gets id ks)
  where
    by_rest : (o : Option ℕ) → number_of id ks ≡ o → option_map suc o ≡ Some n → ((m : ℕ) → number_of id ks ≡ Some m → slice_get ks m ≡ Some id) → slice_get (k ∷ ks) n ≡ Some id
    by_rest None e g rest = absurd (cc)
    by_rest (Some m) e g rest = let next : suc m ≡ n = cc in subst (λ (j : ℕ). slice_get (k ∷ ks) j ≡ Some id) next (rest m e)

    by_test : (b : Bool) → (k == id) ≡ b → cond b (Some 0) (option_map suc (number_of id ks)) ≡ Some n → ((m : ℕ) → number_of id ks ≡ Some m → slice_get ks m ≡ Some id) → slice_get (k ∷ ks) n ≡ Some id
    by_test true e g rest = let first : 0 ≡ n = cc in subst (λ (j : ℕ). slice_get (k ∷ ks) j ≡ Some id) first (ap Some (eqb-true k id e))
    by_test false e g rest = by_rest (number_of id ks) refl g rest

-- an id that stands in a list has a number
pub number_there : (id : ℕ) (ks : List ℕ) (n : ℕ) → slice_get ks n ≡ Some id → (m : ℕ) × (number_of id ks ≡ Some m)
number_there id [] n h = absurd (cc)
number_there id (k ∷ ks) zero h =
    let same : k ≡ id = cc in
    let test : (k == id) ≡ true = eq-eqb k id same in
    (0, rw test refl)
number_there id (k ∷ ks) (suc n) h = by_test (k == id) (number_there id ks n h)
  where
    by_test : (b : Bool) → (m : ℕ) × (number_of id ks ≡ Some m) → (m : ℕ) × (cond b (Some 0) (option_map suc (number_of id ks)) ≡ Some m)
    by_test true rest = (0, refl)
    by_test false rest = (suc rest.0, ap (option_map suc) rest.1)

pub number_none : (id : ℕ) (ks : List ℕ) → ((m : ℕ) → number_of id ks ≡ Some m → ⊥) → number_of id ks ≡ None
number_none id ks h = by_number (number_of id ks) refl
  where
    by_number : (o : Option ℕ) → number_of id ks ≡ o → number_of id ks ≡ None
    by_number None e = e
    by_number (Some m) e = absurd (h m e)

-- ---- entries

pub read_front : {X : Type 0} (id : ℕ) (xs ys : List (ℕ × X)) (x : X) → reads id xs ≡ Some x → reads id (xs ++ ys) ≡ Some x
read_front id [] ys x h = absurd (cc)
read_front {X} id (e ∷ xs) ys x h = by_test (e.0 == id) h (read_front id xs ys x)
  where
    by_test : (b : Bool) → cond b (Some e.1) (reads id xs) ≡ Some x → (reads id xs ≡ Some x → reads id (xs ++ ys) ≡ Some x) → cond b (Some e.1) (reads id (xs ++ ys)) ≡ Some x
    by_test true g rest = g
    by_test false g rest = rest g

pub read_behind : {X : Type 0} (id : ℕ) (xs ys : List (ℕ × X)) → reads id xs ≡ None → reads id (xs ++ ys) ≡ reads id ys
read_behind id [] ys h = refl
read_behind {X} id (e ∷ xs) ys h = by_test (e.0 == id) h (read_behind id xs ys)
  where
    by_test : (b : Bool) → cond b (Some e.1) (reads id xs) ≡ None → (reads id xs ≡ None → reads id (xs ++ ys) ≡ reads id ys) → cond b (Some e.1) (reads id (xs ++ ys)) ≡ reads id ys
    by_test true g rest = absurd (cc)
    by_test false g rest = rest g

pub read_neither : {X : Type 0} (id : ℕ) (xs ys : List (ℕ × X)) → reads id (xs ++ ys) ≡ None → (reads id xs ≡ None) × (reads id ys ≡ None)
read_neither {X} id xs ys h = by_front (reads id xs) refl
  where
    by_front : (o : Option X) → reads id xs ≡ o → (reads id xs ≡ None) × (reads id ys ≡ None)
    by_front None e = (e, sym (read_behind id xs ys e) ∙ h)
    by_front (Some x) e = let clash : None ≡ Some x = sym h ∙ read_front id xs ys x e in absurd (cc)
