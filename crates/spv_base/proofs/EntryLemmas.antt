-- Entries by number: what is read there, and writes and changes that are undone.
use Rattle.std.proofs.Common.{◌≡◌, ◌≢◌, ◌⊎◌, ℕ, zero, suc, List, [], ◌∷◌, Some, length, inl, inr, refl, sym, ap, arith, Bool, true, false, cond, ◌==◌, ◌∙◌, subst}
use Rattle.std.proofs.lemmas.Bool.{eqb-true}
use Rattle.std.specs.List.{AllByRecursion}
use Rattle.std.specs.Prelude.{slice_get, unwrap_or, if◌then◌else◌, option_map}
use Rattle.spv_base.specs.Entries.{reads, writes, change}

pub writes_back : {X : Type 0} (k : ℕ) (v old : X) (es : List (ℕ × X)) → unwrap_or (reads k es) old ≡ old → writes k old (writes k v es) ≡ es
writes_back k v old [] h = refl
writes_back k v old (e ∷ es) h = grind (arith, writes_back k v old es)

-- a change, undone
pub change_back : {A : Type 0} (i : ℕ) (f g : A → A) (xs : List A) → ((x : A) → slice_get xs i ≡ Some x → g (f x) ≡ x) → change i g (change i f xs) ≡ xs
change_back i f g [] h = refl
change_back zero f g (x ∷ xs) h = ap (λ y. y ∷ xs) (h x refl)
change_back (suc i) f g (x ∷ xs) h = ap (λ ys. x ∷ ys) (change_back i f g xs h)

pub length_change : {A : Type 0} (i : ℕ) (g : A → A) (xs : List A) → length (change i g xs) ≡ length xs
length_change i g [] = refl
length_change zero g (x ∷ xs) = refl
length_change (suc i) g (x ∷ xs) = ap suc (length_change i g xs)

pub change_here : {A : Type 0} (i : ℕ) (g : A → A) (xs : List A) → slice_get (change i g xs) i ≡ option_map g (slice_get xs i)
change_here i g [] = refl
change_here zero g (x ∷ xs) = refl
change_here (suc i) g (x ∷ xs) = change_here i g xs

-- the element after a change
pub changed_at : {A : Type 0} (i : ℕ) (g : A → A) (xs : List A) (x : A) → slice_get xs i ≡ Some x → slice_get (change i g xs) i ≡ Some (g x)
changed_at i g xs x at = change_here i g xs ∙ ap (option_map g) at

pub change_twice : {A : Type 0} (i : ℕ) (f g : A → A) (xs : List A) → change i f (change i g xs) ≡ change i (λ x. f (g x)) xs
change_twice i f g [] = refl
change_twice zero f g (x ∷ xs) = refl
change_twice (suc i) f g (x ∷ xs) = ap (λ ys. x ∷ ys) (change_twice i f g xs)

pub change_same : {A : Type 0} (i : ℕ) (f : A → A) (xs : List A) → ((x : A) → f x ≡ x) → change i f xs ≡ xs
change_same i f [] same = refl
change_same zero f (x ∷ xs) same = ap (λ y. y ∷ xs) (same x)
change_same (suc i) f (x ∷ xs) same = ap (λ ys. x ∷ ys) (change_same i f xs same)

-- one that does nothing to the element that is there
pub change_still : {A : Type 0} (i : ℕ) (f : A → A) (xs : List A) → ((x : A) → slice_get xs i ≡ Some x → f x ≡ x) → change i f xs ≡ xs
change_still i f [] same = refl
change_still zero f (x ∷ xs) same = ap (λ y. y ∷ xs) (same x refl)
change_still (suc i) f (x ∷ xs) same = ap (λ ys. x ∷ ys) (change_still i f xs same)

-- ---- what is read

pub reads_put : {X : Type 0} (k : ℕ) (v old : X) (es : List (ℕ × X)) → reads k es ≡ Some old → reads k (writes k v es) ≡ Some v
reads_put k v old [] h = absurd (cc)
reads_put k v old (e ∷ es) h = grind (arith, reads_put k v old es)

pub reads_other : {X : Type 0} (j k : ℕ) (v : X) (es : List (ℕ × X)) → j ≢ k → reads j (writes k v es) ≡ reads j es
reads_other j k v [] h = refl
reads_other j k v (e ∷ es) h = grind (arith, reads_other j k v es h)

-- after a write: what was written, or what stood there before
pub reads_written : {X : Type 0} (id k : ℕ) (v w : X) (es : List (ℕ × X)) → reads k (writes id v es) ≡ Some w → ((id ≡ k) × (v ≡ w)) ⊎ (reads k es ≡ Some w)
reads_written id k v w [] h = inr h
reads_written {X} id k v w (e ∷ es) h = by_id (e.0 == id) refl h (reads_written id k v w es)
  where
    by_key : (b : Bool) → (e.0 == k) ≡ b → (e.0 == id) ≡ true → cond b (Some v) (reads k es) ≡ Some w → ((id ≡ k) × (v ≡ w)) ⊎ (cond b (Some e.1) (reads k es) ≡ Some w)
    by_key true same here g = let is : v ≡ w = cc in inl (sym (eqb-true e.0 id here) ∙ eqb-true e.0 k same, is)
    by_key false same here g = inr g

    by_other : (b : Bool) → cond b (Some e.1) (reads k (writes id v es)) ≡ Some w → (reads k (writes id v es) ≡ Some w → ((id ≡ k) × (v ≡ w)) ⊎ (reads k es ≡ Some w))
        → ((id ≡ k) × (v ≡ w)) ⊎ (cond b (Some e.1) (reads k es) ≡ Some w)
    by_other true g rest = inr g
    by_other false g rest = rest g

    by_id : (b : Bool) → (e.0 == id) ≡ b → reads k (cond b ((e.0, v) ∷ es) (e ∷ writes id v es)) ≡ Some w → (reads k (writes id v es) ≡ Some w → ((id ≡ k) × (v ≡ w)) ⊎ (reads k es ≡ Some w))
        → ((id ≡ k) × (v ≡ w)) ⊎ (cond (e.0 == k) (Some e.1) (reads k es) ≡ Some w)
    by_id true here g rest = by_key (e.0 == k) refl here g
    by_id false here g rest = by_other (e.0 == k) g rest

-- an entry with a number
pub entry_at : {X : Type 0} (k : ℕ) (v : X) (es : List (ℕ × X)) → reads k es ≡ Some v → (n : ℕ) × (slice_get es n ≡ Some (k, v))
entry_at k v [] h = absurd (cc)
entry_at {X} k v (e ∷ es) h = by_key (e.0 == k) refl h (entry_at k v es)
  where
    by_key : (b : Bool) → (e.0 == k) ≡ b → cond b (Some e.1) (reads k es) ≡ Some v → (reads k es ≡ Some v → (n : ℕ) × (slice_get es n ≡ Some (k, v)))
        → (n : ℕ) × (slice_get (e ∷ es) n ≡ Some (k, v))
    by_key true same g rest =
        let value : e.1 ≡ v = cc in
        (0, ap (λ (n : ℕ). Some (n, e.1)) (eqb-true e.0 k same) ∙ ap (λ (x : X). Some (k, x)) value)
    by_key false same g rest = let there = rest g in (suc there.0, there.1)

-- what is so of each entry of a table is so of what is read there
pub reads_each : {A : Type 0} (P : ℕ → A → Type 0) (k : ℕ) (x : A) (es : List (ℕ × A)) → AllByRecursion (λ (e : ℕ × A). P e.0 e.1) es → reads k es ≡ Some x → P k x
reads_each P k x [] all h = absurd (cc)
reads_each {A} P k x (e ∷ es) (first, rest) h = by_test (e.0 == k) refl (reads_each P k x es rest) h
  where
    by_test : (t : Bool) → (e.0 == k) ≡ t → (reads k es ≡ Some x → P k x) → (if t then Some e.1 else reads k es) ≡ Some x → P k x
    by_test true is later h =
        let number : e.0 ≡ k = eqb-true e.0 k is in
        let value : e.1 ≡ x = cc in
        subst (λ (y : A). P k y) value (subst (λ (n : ℕ). P n e.1) number first)
    by_test false is later h = later h
