-- Sums and products that stop at the greatest of 64 bits.
use Rattle.std.proofs.Common.{◌≡◌, ◌∙◌, Bool, true, false, ◌&&◌, nat_le, Option, Some, None, ℕ, ◌+◌, ◌-◌, ◌*◌, ◌^◌, ◌<◌, ◌≤◌, List, [], ◌∷◌, length, get_or, drop, drop-cons, add-one, refl, sym, ap, arith}
use Rattle.std.specs.Prelude.{max, if◌then◌else◌}
use Rattle.std.proofs.Math.ListN.{drop_of_length-le}
use Rattle.std.proofs.Math.Nat.{mul_assoc}
use Rattle.spv_base.specs.Saturation.{saturated}
use Rattle.spv_base.proofs.Exports.{saturated-mul, unsaturated}
use Rattle.spv_dbg.specs.declared.marks.Mark.{Mark}
use Rattle.spv_dbg.specs.declared.measures.Measure.{Measure}
use Rattle.spv_dbg.specs.Saturation.{saturated_measure}
use Rattle.spv_dbg.specs.Forming.{is_within, marked}
use Rattle.spv_dbg.specs.Marks.{count_of, members, product}

-- one more factor
pub times_more : (literal : ℕ → Option ℕ) (bits i : ℕ) (ids : List ℕ) (whole : ℕ) → i < length ids → saturated (bits * product literal (drop i ids)) ≡ whole
    → saturated (saturated (bits * count_of literal (get_or ids i 0)) * product literal (drop (i + 1) ids)) ≡ whole
times_more literal bits i ids whole lt e =
    let next = get_or ids i 0 in
    let rest = product literal (drop (i + 1) ids) in
    saturated-mul (bits * count_of literal next) rest ∙ ap saturated (mul_assoc bits (count_of literal next) rest)
    ∙ sym (ap (λ (xs : List ℕ). saturated (bits * product literal xs)) (drop-cons ids i 0 lt ∙ ap (λ (j : ℕ). next ∷ drop j ids) (sym (add-one i)))) ∙ e

-- all factors
pub times_all : (literal : ℕ → Option ℕ) (bits i : ℕ) (ids : List ℕ) (whole : ℕ) → length ids ≤ i → bits < 2 ^ 64 → saturated (bits * product literal (drop i ids)) ≡ whole → bits ≡ whole
times_all literal bits i ids whole le lt e =
    let none : drop i ids ≡ [] = drop_of_length-le ids le in
    let one : saturated (bits * 1) ≡ whole = rw none at e in
    let same : bits * 1 ≡ bits = omega arith in
    sym (unsaturated bits lt) ∙ sym (ap saturated same) ∙ one

-- what was added, with that of the rest
abbrev pub with_rest : Measure → Measure → Measure
with_rest all rest = record { bits = all.bits + rest.bits; nesting = max all.nesting rest.nesting }

-- all members
pub members_all : (kept : ℕ → Option Mark) (all : Measure) (i : ℕ) (ids : List ℕ) (whole : Measure) → length ids ≤ i → all.bits < 2 ^ 64 → all.nesting < 2 ^ 64
    → saturated_measure (with_rest all (members kept (drop i ids))) ≡ whole → all ≡ whole
members_all kept all i ids whole le b n e =
    let none : drop i ids ≡ [] = drop_of_length-le ids le in
    let f = rw none at e in
    let same_bits : saturated (all.bits + 0) ≡ all.bits = omega arith in
    let same_nesting : saturated (max all.nesting 0) ≡ all.nesting = omega arith in
    rw (same_bits, same_nesting) at f

-- ---- limits

within-saturated : (x : Measure) → is_within (saturated_measure x) ≡ is_within x
within-saturated x = le-saturated x.bits x.nesting
  where
    le : (n k : ℕ) → k < 2 ^ 64 - 1 → nat_le (saturated n) k ≡ nat_le n k
    le n k lt = grind arith

    le-saturated : (b n : ℕ) → (nat_le (saturated b) 268435456 && nat_le (saturated n) 64) ≡ (nat_le b 268435456 && nat_le n 64)
    le-saturated b n = rw (le b 268435456 (omega arith), le n 64 (omega arith)) refl

saturated-within : (x : Measure) → is_within (saturated_measure x) ≡ true → saturated_measure x ≡ x
saturated-within x h =
    let b : saturated x.bits ≡ x.bits = grind arith in
    let n : saturated x.nesting ≡ x.nesting = grind arith in
    rw (b, n) refl

-- the mark that is due
pub not_right : (right : Bool) (x : Measure) (number : ℕ) → right ≡ false → None ≡ (if right && is_within x then Some (marked number x) else None)
not_right right x number h = rw h refl

pub not_within : (right : Bool) (x m : Measure) (number : ℕ) → m ≡ saturated_measure x → is_within m ≡ false → None ≡ (if right && is_within x then Some (marked number x) else None)
not_within right x m number e h =
    let f : is_within x ≡ false = sym (within-saturated x) ∙ ap is_within (sym e) ∙ h in
    rw f (by_case right)
  where
    by_case : (b : Bool) → None ≡ (if b && false then Some (marked number x) else None)
    by_case true = refl
    by_case false = refl

pub is_marked : (right : Bool) (x m : Measure) (number : ℕ) → right ≡ true → m ≡ saturated_measure x → is_within m ≡ true
    → Some (marked number m) ≡ (if right && is_within x then Some (marked number x) else None)
is_marked right x m number r e h =
    let within : is_within (saturated_measure x) ≡ true = ap is_within (sym e) ∙ h in
    let same : m ≡ x = e ∙ saturated-within x within in
    let f : is_within x ≡ true = ap is_within (sym same) ∙ h in
    rw (r, f) (ap (λ (y : Measure). Some (marked number y)) same)
