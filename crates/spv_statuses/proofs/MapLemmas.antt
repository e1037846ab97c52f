-- Lists whose first elements were changed, one by one.
use Rattle.std.proofs.Common.{◌≡◌, ◌∙◌, ℕ, zero, suc, ◌+◌, ◌<◌, ◌≤◌, List, [], ◌∷◌, ◌++◌, length, map, get_or, set, take, drop, refl, ap, sym, arith, add-one}
use Rattle.std.proofs.lemmas.Grind.{common_steps}

-- the first `n` elements are changed, and the others are the same
abbrev pub mapped : {X : Type 0} → (X → X) → ℕ → List X → List X
mapped f zero xs = xs
mapped f (suc n) [] = []
mapped f (suc n) (x ∷ xs) = f x ∷ mapped f n xs

length_mapped : {X : Type 0} (f : X → X) (n : ℕ) (xs : List X) → length (mapped f n xs) ≡ length xs
length_mapped f zero xs = refl
length_mapped f (suc n) [] = refl
length_mapped f (suc n) (x ∷ xs) = ap suc (length_mapped f n xs)

one_more : {X : Type 0} (f : X → X) (n : ℕ) (xs : List X) (d : X) → n < length xs → mapped f (suc n) xs ≡ set (mapped f n xs) n (f (get_or (mapped f n xs) n d))
one_more f zero [] d h = absurd (omega (arith, h))
one_more f zero (x ∷ xs) d h = refl
one_more f (suc n) [] d h = absurd (omega (arith, h))
one_more f (suc n) (x ∷ xs) d h = ap (λ ys. f x ∷ ys) (one_more f n xs d (omega (arith, h)))

pub mapped_more : {X : Type 0} (f : X → X) (n : ℕ) (xs ys : List X) (d v : X) → ys ≡ mapped f n xs → n < length xs → v ≡ f (get_or ys n d) → set ys n v ≡ mapped f (n + 1) xs
mapped_more f n xs ys d v is h e =
    ap (set ys n) e ∙ ap (λ zs. set zs n (f (get_or zs n d))) is ∙ sym (one_more f n xs d h) ∙ ap (λ (k : ℕ). mapped f k xs) (sym (add-one n))

mapped_all : {X : Type 0} (f : X → X) (n : ℕ) (xs : List X) → length xs ≤ n → mapped f n xs ≡ map f xs
mapped_all f zero [] h = refl
mapped_all f zero (x ∷ xs) h = absurd (omega (arith, h))
mapped_all f (suc n) [] h = refl
mapped_all f (suc n) (x ∷ xs) h = ap (λ ys. f x ∷ ys) (mapped_all f n xs (omega (arith, h)))

-- all are changed, where a loop over the elements of `ws` has changed them and puts them back
pub mapped_back : {X : Type 0} (f : X → X) (n : ℕ) (ws xs ys : List X) (len : ℕ) → ys ≡ mapped f n xs → xs ≡ ws → length xs ≤ n → len ≡ length ws → take len (ys ++ drop (length ys) ws) ≡ map f ws
mapped_back f n ws xs ys len is same past long =
    let count : length ys ≡ length ws = ap length is ∙ length_mapped f n xs ∙ ap length same in
    let all : take len (ys ++ drop (length ys) ws) ≡ ys = grind (arith, common_steps, count, long) in
    all ∙ is ∙ mapped_all f n xs past ∙ ap (map f) same
