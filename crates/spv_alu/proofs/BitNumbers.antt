-- Numbers by their bits.
use Rattle.std.proofs.Common.{◌≡◌, ℕ, zero, suc, ◌+◌, ◌-◌, ◌*◌, ◌/◌, ◌%◌, ◌^◌, ◌<◌, ◌≤◌, ℤ, pos, negsuc, inl, inr, sym, ap, ◌∙◌, arith}
use Rattle.std.specs.Int.{bit_at, reverse_bits, reverse_bits_onto, w64}
use Rattle.std.proofs.Math.Nat.{pow-suc, add_comm, mod-mod, mod-eq_of_lt}
use Rattle.std.proofs.lemmas.Bool.{cases_eq}
use Rattle.std.proofs.lemmas.Nat.{mul-add-lt, shr-shr, shr_below, mod_below, pow_pos}
use Rattle.std.proofs.lemmas.Nat.Bits.{bit_at-suc, bit_at-lt, bit_at_lowest, bit_at_cat_low, bit_at_cat_high, same_from_bits_below}
use Rattle.spv_alu.specs.Integers.{low_bits, number_of_bits}

-- a number given by its bits is below the power of their number
pub number_of_bits_below : (k : ℕ) (bit : ℕ → ℕ) → ((i : ℕ) → bit i < 2) → number_of_bits k bit < 2 ^ k
unfolding number_of_bits
number_of_bits_below zero bit h = omega arith
number_of_bits_below (suc k) bit h =
    let rest : number_of_bits k bit < 2 ^ k = number_of_bits_below k bit h in
    let whole : bit k * 2 ^ k + number_of_bits k bit < 2 ^ k * 2 = mul-add-lt (bit k) (2 ^ k) (number_of_bits k bit) 2 (h k) rest in
    omega (arith, pow-suc 2 k)

-- and it has them
pub bit_of_number : (k : ℕ) (bit : ℕ → ℕ) → ((i : ℕ) → bit i < 2) → (i : ℕ) → i < k → bit_at (number_of_bits k bit) i ≡ bit i
unfolding number_of_bits
bit_of_number zero bit h i below = absurd (omega arith)
bit_of_number (suc k) bit h i below =
    let rest : number_of_bits k bit < 2 ^ k = number_of_bits_below k bit h in
    let turned : number_of_bits k bit + bit k * 2 ^ k ≡ bit k * 2 ^ k + number_of_bits k bit = add_comm (number_of_bits k bit) (bit k * 2 ^ k) in
    ap (λ n. bit_at n i) turned
    ∙ (elim (cases_eq i k) [
      | inl e ↦
          let reached : k ≤ i = omega arith in
          let none : i - k ≡ 0 = omega arith in
          bit_at_cat_high (bit k) k (number_of_bits k bit) i rest reached
          ∙ (ap (bit_at (bit k)) none ∙ (bit_at_lowest (bit k) ∙ (mod-eq_of_lt (h k) ∙ ap bit (sym e))))
      | inr ne ↦
          let earlier : i < k = omega arith in
          bit_at_cat_low (bit k) k (number_of_bits k bit) i earlier ∙ bit_of_number k bit h i earlier
    ])

-- a number that has these bits is given by them
pub number_from_bits : (k n : ℕ) (bit : ℕ → ℕ) → ((i : ℕ) → bit i < 2) → n < 2 ^ k → ((i : ℕ) → i < k → bit_at n i ≡ bit i) → n ≡ number_of_bits k bit
number_from_bits k n bit h below e =
    same_from_bits_below k n (number_of_bits k bit) below (number_of_bits_below k bit h) (λ i lt. e i lt ∙ sym (bit_of_number k bit h i lt))

-- the bits of a number that was taken in the opposite order, above and below where that began
reversed_high : (k n a i : ℕ) → k ≤ i → bit_at (reverse_bits_onto k n a) i ≡ bit_at a (i - k)
unfolding reverse_bits_onto
reversed_high zero n a i h =
    let same : i ≡ i - 0 = omega arith in
    ap (bit_at a) same
reversed_high (suc k) n a i h =
    let low : n % 2 < 2 ^ 1 = mod_below n 2 (omega arith) in
    let one : 1 ≤ i - k = omega arith in
    let same : i - k - 1 ≡ i - suc k = omega arith in
    reversed_high k (n / 2) (a * 2 + n % 2) i (omega arith) ∙ (bit_at_cat_high a 1 (n % 2) (i - k) low one ∙ ap (bit_at a) same)

reversed_low : (k n a i : ℕ) → i < k → bit_at (reverse_bits_onto k n a) i ≡ bit_at n (k - 1 - i)
unfolding reverse_bits_onto
reversed_low zero n a i h = absurd (omega arith)
reversed_low (suc k) n a i h =
    elim (cases_eq i k) [
      | inl e ↦
          let none : i - k ≡ 0 = omega arith in
          let first : 0 ≡ suc k - 1 - i = omega arith in
          reversed_high k (n / 2) (a * 2 + n % 2) i (omega arith)
          ∙ (ap (bit_at (a * 2 + n % 2)) none
          ∙ (bit_at_cat_low a 1 (n % 2) 0 (omega arith)
          ∙ (bit_at_lowest (n % 2) ∙ (mod-mod n 2 ∙ (sym (bit_at_lowest n) ∙ ap (bit_at n) first)))))
      | inr ne ↦
          let earlier : i < k = omega arith in
          let same : suc (k - 1 - i) ≡ suc k - 1 - i = omega arith in
          reversed_low k (n / 2) (a * 2 + n % 2) i earlier ∙ (sym (bit_at-suc n (k - 1 - i)) ∙ ap (bit_at n) same)
    ]

-- the bits of a width in the opposite order, from those of 64
pub reversed_shifted : (w x reversed : ℕ) → w ≤ 64 → reversed < 2 ^ 64 → reversed ≡ reverse_bits w64 x → reversed / 2 ^ (64 - w) ≡ number_of_bits w (λ i. bit_at x (w - 1 - i))
reversed_shifted w x reversed narrow below e =
    let places = 64 - w in
    let all : w + (64 - w) ≡ 64 = omega arith in
    let whole : reversed < 2 ^ (w + (64 - w)) = rw all below in
    number_from_bits w (reversed / 2 ^ places) (λ i. bit_at x (w - 1 - i)) (λ i. bit_at-lt x (w - 1 - i)) (shr_below reversed w places whole) (λ i lt.
    let within : places + i < 64 = omega arith in
    let same : 64 - 1 - (places + i) ≡ w - 1 - i = omega arith in
    ap (λ q. q % 2) (shr-shr reversed places i)
    ∙ (ap (λ n. bit_at n (places + i)) e ∙ (reversed_low 64 x 0 (places + i) within ∙ ap (bit_at x) same)))

-- the lowest bits of a number are below the power of their number
pub low_bits_below : (w : ℕ) (z : ℤ) → low_bits w z < 2 ^ w
low_bits_below w (pos n) = mod_below n (2 ^ w) (pow_pos w)
low_bits_below w (negsuc n) = omega (arith, pow_pos w)
