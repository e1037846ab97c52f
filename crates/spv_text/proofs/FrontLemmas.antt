-- The longest front of a text whose bytes pass a test.
use Rattle.std.proofs.Common.{◌≡◌, ℕ, suc, ◌+◌, ◌≤◌, Bool, true, false, not, cond, List, [], ◌∷◌, ◌++◌, length, take, drop, get_or, Option, unwrap_or, refl, sym, ap, ◌∙◌, arith, subst}
use Rattle.std.proofs.lemmas.Bool.{and_parts, and_from}
use Rattle.std.specs.List.{position, position_or_len, list_all}
use Rattle.spv_line.proofs.Exports.{first_are, place_or_end, place_within}

end_is : (p : ℕ → Bool) (xs : List ℕ) → unwrap_or (position p xs) (length xs) ≡ position_or_len p xs
end_is p xs = place_or_end (position_or_len p xs) (length xs) (place_within p xs)

pub front_within : (p : ℕ → Bool) (xs : List ℕ) (place : Option ℕ) → place ≡ position p xs → unwrap_or place (length xs) ≤ length xs
front_within p xs place e = subst (λ n. n ≤ length xs) (sym (ap (λ o. unwrap_or o (length xs)) e ∙ end_is p xs)) (place_within p xs)

-- the front passes, and what follows doesn't begin with what passes
passes_by : (b : Bool) (p : ℕ → Bool) (x n : ℕ) (xs : List ℕ) → p x ≡ b → list_all p (take n xs) ≡ true → list_all p (take (cond (not (not b)) (1 + n) 0) (x ∷ xs)) ≡ true
passes_by false p x n xs h ih = refl
passes_by true p x n xs h ih =
    let e : 1 + n ≡ suc n = omega arith in
    ap (λ m. list_all p (take m (x ∷ xs))) e ∙ and_from _ _ h ih

passes : (p : ℕ → Bool) (xs : List ℕ) → list_all p (take (position_or_len (λ b. not (p b)) xs) xs) ≡ true
passes p [] = refl
passes p (x ∷ xs) = passes_by (p x) p x (position_or_len (λ b. not (p b)) xs) xs refl (passes p xs)

fails_by : (b : Bool) (p : ℕ → Bool) (x n : ℕ) (xs : List ℕ) → p x ≡ b → p (get_or (drop n xs) 0 0) ≡ false → p (get_or (drop (cond (not (not b)) (1 + n) 0) (x ∷ xs)) 0 0) ≡ false
fails_by false p x n xs h ih = h
fails_by true p x n xs h ih =
    let e : 1 + n ≡ suc n = omega arith in
    ap (λ m. p (get_or (drop m (x ∷ xs)) 0 0)) e ∙ ih

fails : (p : ℕ → Bool) → p 0 ≡ false → (xs : List ℕ) → p (get_or (drop (position_or_len (λ b. not (p b)) xs) xs) 0 0) ≡ false
fails p z [] = z
fails p z (x ∷ xs) = fails_by (p x) p x (position_or_len (λ b. not (p b)) xs) xs refl (fails p z xs)

pub front_passes : (p : ℕ → Bool) (xs front back : List ℕ) (place : Option ℕ) → p 0 ≡ false → place ≡ position (λ b. not (p b)) xs → front ≡ take (unwrap_or place (length xs)) xs → back ≡ drop (unwrap_or place (length xs)) xs
    → (list_all p front ≡ true) × (p (get_or back 0 0) ≡ false)
front_passes p xs front back place z e f g =
    let n = ap (λ o. unwrap_or o (length xs)) e ∙ end_is (λ b. not (p b)) xs in
    (ap (list_all p) (f ∙ ap (λ m. take m xs) n) ∙ passes p xs, ap (λ l. p (get_or l 0 0)) (g ∙ ap (λ m. drop m xs) n) ∙ fails p z xs)

-- two such fronts of one text are one
pub one_front : (p : ℕ → Bool) (xs ys r s : List ℕ) → list_all p xs ≡ true → list_all p ys ≡ true → p (get_or r 0 0) ≡ false → p (get_or s 0 0) ≡ false → xs ++ r ≡ ys ++ s → (xs ≡ ys) × (r ≡ s)
one_front p [] [] r s a b c d e = (refl, e)
one_front p [] (y ∷ ys) r s a b c d e =
    let t : p (get_or r 0 0) ≡ true = ap (λ l. p (get_or l 0 0)) e ∙ (and_parts (p y) (list_all p ys) b).0 in absurd (cc)
one_front p (x ∷ xs) [] r s a b c d e =
    let t : p (get_or s 0 0) ≡ true = ap (λ l. p (get_or l 0 0)) (sym e) ∙ (and_parts (p x) (list_all p xs) a).0 in absurd (cc)
one_front p (x ∷ xs) (y ∷ ys) r s a b c d e =
    let h = first_are x y (xs ++ r) (ys ++ s) e in
    let more = one_front p xs ys r s (and_parts (p x) (list_all p xs) a).1 (and_parts (p y) (list_all p ys) b).1 c d h.1 in
    (ap (λ z. z ∷ xs) h.0 ∙ ap (λ zs. y ∷ zs) more.0, more.1)
