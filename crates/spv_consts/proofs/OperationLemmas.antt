-- An operation on the lanes of rows, one after another.
use Rattle.std.proofs.Common.{◌≡◌, ◌∙◌, ℕ, zero, suc, ◌+◌, ◌<◌, ◌≤◌, List, [], ◌∷◌, ◌++◌, length, get_or, drop, drop-cons, drop_of_length-le, add-one, append_assoc, append-nil, slice_get, Some, None, refl, sym, ap}
use Rattle.std.specs.Simd.Lanes.{zip2}
use Rattle.spv_base.specs.Cell.{Cell}
use Rattle.spv_alu.specs.Lanes.{zip3}

none_left : {A : Type 0} (xs : List A) (n : ℕ) → None ≡ slice_get xs n → drop n xs ≡ []
none_left [] zero h = refl
none_left [] (suc n) h = refl
none_left (x ∷ xs) zero h = cc
none_left (x ∷ xs) (suc n) h = none_left xs n h

none_later : {A : Type 0} (xs : List A) (n : ℕ) → None ≡ slice_get xs n → drop (n + 1) xs ≡ []
none_later xs n h = rw add-one (later xs n h)
  where
    later : {A : Type 0} (xs : List A) (n : ℕ) → None ≡ slice_get xs n → drop (suc n) xs ≡ []
    later [] zero h = refl
    later [] (suc n) h = refl
    later (x ∷ xs) zero h = cc
    later (x ∷ xs) (suc n) h = later xs n h

one_left : {A : Type 0} (xs : List A) (n : ℕ) (x : A) → Some x ≡ slice_get xs n → drop n xs ≡ x ∷ drop (n + 1) xs
one_left xs n x h = rw add-one (left xs n x h)
  where
    left : {A : Type 0} (xs : List A) (n : ℕ) (x : A) → Some x ≡ slice_get xs n → drop n xs ≡ x ∷ drop (suc n) xs
    left [] n x h = cc
    left (y ∷ xs) zero x h = cc
    left (y ∷ xs) (suc n) x h = left xs n x h

-- ---- pairs

no_second : (f : Cell → Cell → Cell) (xs : List Cell) → zip2 f xs [] ≡ []
no_second f [] = refl
no_second f (x ∷ xs) = refl

pub pairs_skipped : (f : Cell → Cell → Cell) (xs ys done whole : List Cell) (n : ℕ) → None ≡ slice_get ys n
    → done ++ zip2 f (drop n xs) (drop n ys) ≡ whole → done ++ zip2 f (drop (n + 1) xs) (drop (n + 1) ys) ≡ whole
pairs_skipped f xs ys done whole n h g =
    let e : zip2 f (drop n xs) (drop n ys) ≡ [] = rw (none_left ys n h) (no_second f (drop n xs)) in
    let e' : zip2 f (drop (n + 1) xs) (drop (n + 1) ys) ≡ [] = rw (none_later ys n h) (no_second f (drop (n + 1) xs)) in
    ap (λ (zs : List Cell). done ++ zs) (e' ∙ sym e) ∙ g

pub pairs_more : (f : Cell → Cell → Cell) (xs ys done now whole : List Cell) (n : ℕ) (x y v : Cell) → n < length xs → x ≡ get_or xs n x → Some y ≡ slice_get ys n → v ≡ f x y → now ≡ done ++ v ∷ []
    → done ++ zip2 f (drop n xs) (drop n ys) ≡ whole → now ++ zip2 f (drop (n + 1) xs) (drop (n + 1) ys) ≡ whole
pairs_more f xs ys done now whole n x y v l e h k m g =
    let left : drop n xs ≡ x ∷ drop (n + 1) xs = rw (drop-cons xs n x l, ← e, add-one) refl in
    let whole_left : zip2 f (drop n xs) (drop n ys) ≡ f x y ∷ zip2 f (drop (n + 1) xs) (drop (n + 1) ys) = rw (left, one_left ys n y h) refl in
    rw (m, append_assoc, k) (ap (λ (zs : List Cell). done ++ zs) (sym whole_left) ∙ g)

pub pairs_end : (f : Cell → Cell → Cell) (xs ys done whole : List Cell) (n : ℕ) → length xs ≤ n → done ++ zip2 f (drop n xs) (drop n ys) ≡ whole → done ≡ whole
pairs_end f xs ys done whole n l g =
    let none : zip2 f (drop n xs) (drop n ys) ≡ [] = rw (drop_of_length-le xs l) refl in
    sym (append-nil done) ∙ ap (λ (zs : List Cell). done ++ zs) (sym none) ∙ g

-- ---- triples

no_middle : (f : Cell → Cell → Cell → Cell) (xs zs : List Cell) → zip3 f xs [] zs ≡ []
no_middle f [] zs = refl
no_middle f (x ∷ xs) zs = refl

no_last : (f : Cell → Cell → Cell → Cell) (xs ys : List Cell) → zip3 f xs ys [] ≡ []
no_last f [] ys = refl
no_last f (x ∷ xs) [] = refl
no_last f (x ∷ xs) (y ∷ ys) = refl

pub triples_no_middle : (f : Cell → Cell → Cell → Cell) (xs ys zs done whole : List Cell) (n : ℕ) → None ≡ slice_get ys n
    → done ++ zip3 f (drop n xs) (drop n ys) (drop n zs) ≡ whole → done ++ zip3 f (drop (n + 1) xs) (drop (n + 1) ys) (drop (n + 1) zs) ≡ whole
triples_no_middle f xs ys zs done whole n h g =
    let e : zip3 f (drop n xs) (drop n ys) (drop n zs) ≡ [] = rw (none_left ys n h) (no_middle f (drop n xs) (drop n zs)) in
    let e' : zip3 f (drop (n + 1) xs) (drop (n + 1) ys) (drop (n + 1) zs) ≡ [] = rw (none_later ys n h) (no_middle f (drop (n + 1) xs) (drop (n + 1) zs)) in
    ap (λ (ws : List Cell). done ++ ws) (e' ∙ sym e) ∙ g

pub triples_no_last : (f : Cell → Cell → Cell → Cell) (xs ys zs done whole : List Cell) (n : ℕ) → None ≡ slice_get zs n
    → done ++ zip3 f (drop n xs) (drop n ys) (drop n zs) ≡ whole → done ++ zip3 f (drop (n + 1) xs) (drop (n + 1) ys) (drop (n + 1) zs) ≡ whole
triples_no_last f xs ys zs done whole n h g =
    let e : zip3 f (drop n xs) (drop n ys) (drop n zs) ≡ [] = rw (none_left zs n h) (no_last f (drop n xs) (drop n ys)) in
    let e' : zip3 f (drop (n + 1) xs) (drop (n + 1) ys) (drop (n + 1) zs) ≡ [] = rw (none_later zs n h) (no_last f (drop (n + 1) xs) (drop (n + 1) ys)) in
    ap (λ (ws : List Cell). done ++ ws) (e' ∙ sym e) ∙ g

pub triples_more : (f : Cell → Cell → Cell → Cell) (xs ys zs done now whole : List Cell) (n : ℕ) (x y z v : Cell) → n < length xs → x ≡ get_or xs n x → Some y ≡ slice_get ys n → Some z ≡ slice_get zs n
    → v ≡ f x y z → now ≡ done ++ v ∷ [] → done ++ zip3 f (drop n xs) (drop n ys) (drop n zs) ≡ whole → now ++ zip3 f (drop (n + 1) xs) (drop (n + 1) ys) (drop (n + 1) zs) ≡ whole
triples_more f xs ys zs done now whole n x y z v l e h k m p g =
    let left : drop n xs ≡ x ∷ drop (n + 1) xs = rw (drop-cons xs n x l, ← e, add-one) refl in
    let whole_left : zip3 f (drop n xs) (drop n ys) (drop n zs) ≡ f x y z ∷ zip3 f (drop (n + 1) xs) (drop (n + 1) ys) (drop (n + 1) zs) = rw (left, one_left ys n y h, one_left zs n z k) refl in
    rw (p, append_assoc, m) (ap (λ (ws : List Cell). done ++ ws) (sym whole_left) ∙ g)

pub triples_end : (f : Cell → Cell → Cell → Cell) (xs ys zs done whole : List Cell) (n : ℕ) → length xs ≤ n → done ++ zip3 f (drop n xs) (drop n ys) (drop n zs) ≡ whole → done ≡ whole
triples_end f xs ys zs done whole n l g =
    let none : zip3 f (drop n xs) (drop n ys) (drop n zs) ≡ [] = rw (drop_of_length-le xs l) refl in
    sym (append-nil done) ∙ ap (λ (ws : List Cell). done ++ ws) (sym none) ∙ g
