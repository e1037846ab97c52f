-- Lists from the last element back, with one element more; and elements of two lists in a row.
use Rattle.std.proofs.Common.{◌≡◌, ◌∙◌, ℕ, suc, zero, ◌+◌, ◌<◌, List, [], ◌∷◌, ◌++◌, length, get_or, slice_get, take, drop, refl, sym, ap, arith, add-one}
use Rattle.std.specs.Prelude.{reverse}
use Rattle.std.proofs.Math.Seq.{take-suc}
use Rattle.std.proofs.lemmas.List.{drop_more, length-drop, reverse-append}

-- those before the one with a number, and it
back_more : {X : Type 0} (xs : List X) (n : ℕ) (x : X) → n < length xs → x ≡ get_or xs n x → reverse (take (n + 1) xs) ≡ x ∷ reverse (take n xs)
back_more xs n x lt is =
    rw (add-one n)
    (ap reverse (take-suc xs n x lt) ∙ reverse-append (take n xs) (get_or xs n x ∷ []) ∙ ap (λ y. y ∷ reverse (take n xs)) (sym is))

-- the same, where what is left begins with it
pub back_next : {X : Type 0} (xs : List X) (n : ℕ) (x : X) → drop n xs ≡ x ∷ drop (n + 1) xs → reverse (take (n + 1) xs) ≡ x ∷ reverse (take n xs)
back_next xs n x e =
    let longer = simp length-drop at (ap length e) in
    let lt : n < length xs = omega arith in
    let next = drop_more xs n x lt in
    let is : x ≡ get_or xs n x = cc in
    back_more xs n x lt is

-- one of the first list
pub get_first : {X : Type 0} (xs ys : List X) (n : ℕ) → n < length xs → slice_get (xs ++ ys) n ≡ slice_get xs n
get_first [] ys n lt = absurd (omega arith)
get_first (x ∷ xs) ys zero lt = refl
get_first (x ∷ xs) ys (suc n) lt = get_first xs ys n (omega arith)

-- one of the second
pub get_second : {X : Type 0} (xs ys : List X) (n k : ℕ) → n ≡ length xs + k → slice_get (xs ++ ys) n ≡ slice_get ys k
get_second [] ys n k e = let same : n ≡ k = omega arith in ap (slice_get ys) same
get_second (x ∷ xs) ys zero k e = absurd (omega arith)
get_second (x ∷ xs) ys (suc n) k e = get_second xs ys n k (omega arith)
