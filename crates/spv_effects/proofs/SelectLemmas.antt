-- The conditions of a selection.
use Rattle.std.proofs.Common.{◌≡◌, ◌∙◌, ℕ, zero, suc, ◌<◌, List, [], ◌∷◌, length, map, get_or, refl, sym, ap, arith, replicate}
use Rattle.std.specs.Simd.Lanes.{zip2}
use Rattle.spv_alu.specs.Select.{select_of, selected}
use Rattle.spv_base.specs.Cell.{Cell}
use Rattle.spv_alu.specs.Lanes.{zip3}

repeated : (f : Cell → Cell → Cell → Cell) (c : Cell) (xs ys : List Cell) → zip2 (f c) xs ys ≡ zip3 f (replicate (length xs) c) xs ys
repeated f c [] ys = refl
repeated f c (x ∷ xs) [] = refl
repeated f c (x ∷ xs) (y ∷ ys) = ap (λ (t : List Cell). f c x y ∷ t) (repeated f c xs ys)

pub one_condition : (cs xs ys : List Cell) (c : Cell) → length cs ≡ 1 → c ≡ get_or cs 0 c → zip2 (select_of c) xs ys ≡ selected cs xs ys
one_condition [] xs ys c h e = absurd (omega arith)
one_condition (d ∷ []) xs ys c h e = ap (λ (k : Cell). zip2 (select_of k) xs ys) e ∙ repeated select_of d xs ys
one_condition (d ∷ (g ∷ cs)) xs ys c h e = absurd (omega arith)

pub many_conditions : (cs xs ys : List Cell) → (length cs ≡ 1 → ⊥) → zip3 select_of cs xs ys ≡ selected cs xs ys
many_conditions [] xs ys h = refl
many_conditions (d ∷ []) xs ys h = absurd (h refl)
many_conditions (d ∷ (g ∷ cs)) xs ys h = refl

-- leaves of the same widths
pub same_width : (xs ys : List Cell) (i : ℕ) (x y : Cell) → map (λ (z : Cell). z.width) xs ≡ map (λ (z : Cell). z.width) ys → i < length xs → x ≡ get_or xs i x → y ≡ get_or ys i y → y.width ≡ x.width
same_width [] ys i x y m h e g = absurd (omega arith)
same_width (a ∷ xs) [] i x y m h e g = cc
same_width (a ∷ xs) (b ∷ ys) zero x y m h e g = let w : a.width ≡ b.width = cc in ap (λ (z : Cell). z.width) g ∙ sym w ∙ ap (λ (z : Cell). z.width) (sym e)
same_width (a ∷ xs) (b ∷ ys) (suc i) x y m h e g =
    let rest : map (λ (z : Cell). z.width) xs ≡ map (λ (z : Cell). z.width) ys = cc in
    let h' : i < length xs = omega arith in
    same_width xs ys i x y rest h' e g

pub same_lengths : (xs ys : List Cell) → map (λ (z : Cell). z.width) xs ≡ map (λ (z : Cell). z.width) ys → length xs ≡ length ys
same_lengths [] [] m = refl
same_lengths [] (b ∷ ys) m = cc
same_lengths (a ∷ xs) [] m = cc
same_lengths (a ∷ xs) (b ∷ ys) m = let rest : map (λ (z : Cell). z.width) xs ≡ map (λ (z : Cell). z.width) ys = cc in ap suc (same_lengths xs ys rest)
