-- Elements of lists that are changed, taken or put.
use Rattle.std.proofs.Common.{◌≡◌, ◌∙◌, ℕ, zero, suc, ◌+◌, ◌-◌, ◌<◌, ◌≤◌, arith, List, [], ◌∷◌, ◌++◌, length, take, slice_get, refl, ap, length-take-le}
use Rattle.std.specs.Option.{IsSomeAnd}
use Rattle.spv_base.specs.Entries.{change}
use Rattle.spv_journal.specs.Touches.{but_last}

-- what is so of an element before and behind a change
pub kept_at : {A : Type 0} (P : A → Type 0) (h : A → A) (m d : ℕ) (xs : List A) → ((x : A) → P x → P (h x)) → IsSomeAnd (slice_get xs d) P → IsSomeAnd (slice_get (change m h xs) d) P
kept_at P h m d [] keeps is = is
kept_at P h zero zero (x ∷ xs) keeps is = keeps x is
kept_at P h zero (suc d) (x ∷ xs) keeps is = is
kept_at P h (suc m) zero (x ∷ xs) keeps is = is
kept_at P h (suc m) (suc d) (x ∷ xs) keeps is = kept_at P h m d xs keeps is

-- what is so of the element that is changed
pub turned_at : {A : Type 0} (P Q : A → Type 0) (h : A → A) (m : ℕ) (xs : List A) → ((x : A) → P x → Q (h x)) → IsSomeAnd (slice_get xs m) P → IsSomeAnd (slice_get (change m h xs) m) Q
turned_at P Q h m [] turns is = absurd is
turned_at P Q h zero (x ∷ xs) turns is = turns x is
turned_at P Q h (suc m) (x ∷ xs) turns is = turned_at P Q h m xs turns is

-- what is so of another one
pub other_at : {A : Type 0} (P : A → Type 0) (h : A → A) (m d : ℕ) (xs : List A) → d < m → IsSomeAnd (slice_get xs d) P → IsSomeAnd (slice_get (change m h xs) d) P
other_at P h m d [] below is = is
other_at P h zero d (x ∷ xs) below is = absurd (omega (arith, below))
other_at P h (suc m) zero (x ∷ xs) below is = is
other_at P h (suc m) (suc d) (x ∷ xs) below is = other_at P h m d xs (omega (arith, below)) is

pub front_at : {A : Type 0} (P : A → Type 0) (d : ℕ) (xs ys : List A) → IsSomeAnd (slice_get xs d) P → IsSomeAnd (slice_get (xs ++ ys) d) P
front_at P d [] ys is = absurd is
front_at P zero (x ∷ xs) ys is = is
front_at P (suc d) (x ∷ xs) ys is = front_at P d xs ys is

pub taken_at : {A : Type 0} (P : A → Type 0) (n d : ℕ) (xs : List A) → d < n → IsSomeAnd (slice_get xs d) P → IsSomeAnd (slice_get (take n xs) d) P
taken_at P n d [] below is = absurd is
taken_at P zero d (x ∷ xs) below is = absurd (omega (arith, below))
taken_at P (suc n) zero (x ∷ xs) below is = is
taken_at P (suc n) (suc d) (x ∷ xs) below is = taken_at P n d xs (omega (arith, below)) is

take_twice : {A : Type 0} (j k : ℕ) (xs : List A) → j ≤ k → take j (take k xs) ≡ take j xs
take_twice zero k xs h = refl
take_twice (suc j) zero xs h = absurd (omega arith)
take_twice (suc j) (suc k) [] h = refl
take_twice (suc j) (suc k) (x ∷ xs) h = ap (λ ys. x ∷ ys) (take_twice j k xs (omega arith))

pub but_last_more : {A : Type 0} (n : ℕ) (xs : List A) → but_last 1 (but_last n xs) ≡ but_last (n + 1) xs
but_last_more n xs =
    let long : length (take (length xs - n) xs) ≡ length xs - n = length-take-le (length xs - n) xs (omega arith) in
    let fewer : length (take (length xs - n) xs) - 1 ≡ length xs - (n + 1) = omega (arith, long) in
    ap (λ (k : ℕ). take k (take (length xs - n) xs)) fewer ∙ take_twice (length xs - (n + 1)) (length xs - n) xs (omega arith)
