-- Numbers of bits that stop at the greatest of 64 bits.
use Rattle.std.proofs.Common.{◌≡◌, ◌∙◌, ℕ, ◌+◌, ◌*◌, ◌^◌, ◌<◌, ◌≤◌, List, [], ◌∷◌, length, get_or, drop, drop-cons, add-one, sym, ap, arith}
use Rattle.std.proofs.Math.ListN.{drop_of_length-le}
use Rattle.std.proofs.Math.Nat.{mul_assoc}
use Rattle.spv_base.specs.Saturation.{saturated}
use Rattle.spv_base.proofs.Exports.{saturated-mul, unsaturated}
use Rattle.spv_dbg.specs.Tables.{Tables}
use Rattle.spv_parts.specs.Parts.{literal, product}

-- one more Count
pub times_more : (t : Tables) (bits i : ℕ) (ids : List ℕ) (whole : ℕ) → i < length ids → saturated (bits * product t (drop i ids)) ≡ whole
    → saturated (saturated (bits * literal t (get_or ids i 0)) * product t (drop (i + 1) ids)) ≡ whole
times_more t bits i ids whole lt e =
    let next = get_or ids i 0 in
    let rest = product t (drop (i + 1) ids) in
    saturated-mul (bits * literal t next) rest ∙ ap saturated (mul_assoc bits (literal t next) rest)
    ∙ sym (ap (λ (xs : List ℕ). saturated (bits * product t xs)) (drop-cons ids i 0 lt ∙ ap (λ (j : ℕ). next ∷ drop j ids) (sym (add-one i)))) ∙ e

-- all Counts
pub times_all : (t : Tables) (bits i : ℕ) (ids : List ℕ) (whole : ℕ) → length ids ≤ i → bits < 2 ^ 64 → saturated (bits * product t (drop i ids)) ≡ whole → bits ≡ whole
times_all t bits i ids whole le lt e =
    let none : drop i ids ≡ [] = drop_of_length-le ids le in
    let one : saturated (bits * 1) ≡ whole = rw none at e in
    let same : bits * 1 ≡ bits = omega arith in
    sym (unsaturated bits lt) ∙ sym (ap saturated same) ∙ one
