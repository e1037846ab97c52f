-- Lists of which the first places were gone over.
use Rattle.std.proofs.Common.{◌≡◌, ℕ, zero, suc, ◌+◌, ◌<◌, ◌≤◌, List, [], ◌∷◌, ◌++◌, length, get_or, set, take, drop, refl, ap, subst, arith, add-one}
use Rattle.std.specs.List.{AllZip, All}
use Rattle.std.proofs.lemmas.Grind.{common_steps}

-- the first `n` places are related, and the others are the same
abbrev pub FirstDo : {X : Type 0} → (X → X → Type 0) → ℕ → List X → List X → Type 0
FirstDo R n [] ys = ys ≡ []
FirstDo R zero (x ∷ xs) ys = ys ≡ x ∷ xs
FirstDo R (suc n) (x ∷ xs) [] = ⊥
FirstDo R (suc n) (x ∷ xs) (y ∷ ys) = R x y × FirstDo R n xs ys

first_none : {X : Type 0} (R : X → X → Type 0) (xs : List X) → FirstDo R 0 xs xs
first_none R [] = refl
first_none R (x ∷ xs) = refl

first_all : {X : Type 0} (R : X → X → Type 0) (n : ℕ) (xs ys : List X) → FirstDo R n xs ys → length xs ≤ n → AllZip R xs ys
first_all R n [] ys f e = rw f tt
first_all R zero (x ∷ xs) ys f e = grind arith
first_all R (suc n) (x ∷ xs) [] f e = elim f [ ]
first_all R (suc n) (x ∷ xs) (y ∷ ys) f e = (f.0, first_all R n xs ys f.1 (omega arith))

first_length : {X : Type 0} (R : X → X → Type 0) (n : ℕ) (xs ys : List X) → FirstDo R n xs ys → length ys ≡ length xs
first_length R n [] ys f = rw f refl
first_length R zero (x ∷ xs) ys f = rw f refl
first_length R (suc n) (x ∷ xs) [] f = elim f [ ]
first_length R (suc n) (x ∷ xs) (y ∷ ys) f = let e = first_length R n xs ys f.1 in omega arith

first_here : {X : Type 0} (R : X → X → Type 0) (n : ℕ) (xs ys : List X) (d : X) → FirstDo R n xs ys → get_or ys n d ≡ get_or xs n d
first_here R n [] ys d f = rw f refl
first_here R zero (x ∷ xs) ys d f = rw f refl
first_here R (suc n) (x ∷ xs) [] d f = elim f [ ]
first_here R (suc n) (x ∷ xs) (y ∷ ys) d f = first_here R n xs ys d f.1

first_suc : {X : Type 0} (R : X → X → Type 0) (n : ℕ) (xs ys : List X) (d v : X) → FirstDo R n xs ys → n < length xs → R (get_or ys n d) v → FirstDo R (suc n) xs (set ys n v)
first_suc R n [] ys d v f i r = grind arith
first_suc R zero (x ∷ xs) ys d v f i r =
    let e : get_or ys 0 d ≡ x = rw f refl in
    rw f (subst (λ u. R u v) e r, first_none R xs)
first_suc R (suc n) (x ∷ xs) [] d v f i r = elim f [ ]
first_suc R (suc n) (x ∷ xs) (y ∷ ys) d v f i r = (f.0, first_suc R n xs ys d v f.1 (omega arith) r)

pub first_step : {X : Type 0} (R : X → X → Type 0) (n : ℕ) (xs ys : List X) (d v : X) → FirstDo R n xs ys → n < length xs → R (get_or ys n d) v → FirstDo R (n + 1) xs (set ys n v)
first_step R n xs ys d v f i r = rw (add-one n) (first_suc R n xs ys d v f i r)

-- a fact of each place still holds of the next one
pub first_holds : {X : Type 0} (R : X → X → Type 0) (P : X → Type 0) (n : ℕ) (ws xs ys : List X) (d : X) → FirstDo R n xs ys → xs ≡ ws → n < length xs → All P ws → P (get_or ys n d)
first_holds R P n ws xs ys d f s i p =
    let same : length xs ≡ length ws = ap length s in
    let here : get_or ys n d ≡ get_or ws n d = rw (first_here R n xs ys d f) (rw s refl) in
    rw here (p n d (omega arith))

pub first_back : {X : Type 0} (R : X → X → Type 0) (n : ℕ) (ws xs ys : List X) (len : ℕ) → FirstDo R n xs ys → xs ≡ ws → length xs ≤ n → len ≡ length ws → AllZip R ws (take len (ys ++ drop (length ys) ws))
first_back R n ws xs ys len f s i e =
    let l = first_length R n xs ys f in
    let same : length xs ≡ length ws = ap length s in
    let all : AllZip R ws ys = subst (λ us. AllZip R us ys) s (first_all R n xs ys f i) in
    let t : take len (ys ++ drop (length ys) ws) ≡ ys = grind (arith, common_steps) in
    rw t all
