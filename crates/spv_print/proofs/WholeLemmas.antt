-- Whole elements, by one Count after another.
use Rattle.std.proofs.Common.{◌≡◌, ◌∙◌, ℕ, zero, suc, ◌+◌, ◌*◌, ◌/◌, ◌<◌, List, [], ◌∷◌, ◌++◌, length, take, get_or, refl, sym, ap, arith}
use Rattle.std.proofs.Math.Nat.{div-div-eq-div-mul, mul_assoc}
use Rattle.std.proofs.lemmas.List.{take_more}
use Rattle.spv_base.specs.Saturation.{saturated}
use Rattle.spv_dbg.specs.Tables.{Tables}
use Rattle.spv_parts.specs.Parts.{literal, product}
use Rattle.spv_print.specs.Layouts.{whole_in}

pub none_whole : (bits part : ℕ) → saturated part ≡ 0 → whole_in bits part ≡ 0
none_whole bits zero e = refl
none_whole bits (suc k) e = absurd (omega (arith, e))

pub some_whole : (bits part : ℕ) → 0 < part → whole_in bits part ≡ bits / part
some_whole bits zero some = absurd (omega (arith, some))
some_whole bits (suc k) some = refl

product_more : (t : Tables) (ids : List ℕ) (id : ℕ) → product t (ids ++ id ∷ []) ≡ product t ids * literal t id
product_more t [] id = omega arith
product_more t (x ∷ ids) id = ap (λ n. literal t x * n) (product_more t ids id) ∙ sym (mul_assoc (literal t x) (product t ids) (literal t id))

pub next_whole : (t : Tables) (bits base whole i d : ℕ) (ids : List ℕ) → i < length ids → whole ≡ bits / (base * product t (take i ids))
    → whole / literal t (get_or ids i d) ≡ bits / (base * product t (take (i + 1) ids))
next_whole t bits base whole i d ids lt e =
    let id = get_or ids i d in
    let more : product t (take (i + 1) ids) ≡ product t (take i ids) * literal t id = ap (product t) (take_more ids i d lt) ∙ product_more t (take i ids) id in
    ap (λ n. n / literal t id) e ∙ div-div-eq-div-mul bits (base * product t (take i ids)) (literal t id)
    ∙ ap (λ n. bits / n) (mul_assoc base (product t (take i ids)) (literal t id) ∙ ap (λ n. base * n) (sym more))

-- where a product isn't 0, no factor is
factor_some : (a b : ℕ) → 0 < a * b → (0 < a) × (0 < b)
factor_some zero b some = absurd (omega (arith, some))
factor_some (suc a) zero some = absurd (omega (arith, some))
factor_some (suc a) (suc b) some = (omega arith, omega arith)

pub count_some : (t : Tables) (ids : List ℕ) (i d : ℕ) → i < length ids → 0 < product t ids → 0 < literal t (get_or ids i d)
count_some t [] i d lt some = absurd (omega (arith, lt))
count_some t (id ∷ ids) zero d lt some = (factor_some (literal t id) (product t ids) some).0
count_some t (id ∷ ids) (suc i) d lt some = count_some t ids i d (omega (arith, lt)) (factor_some (literal t id) (product t ids) some).1

pub parts_some : (t : Tables) (base : ℕ) (ids : List ℕ) → 0 < saturated (base * product t ids) → (0 < base) × (0 < product t ids)
parts_some t base ids some = factor_some base (product t ids) (omega (arith, some))
