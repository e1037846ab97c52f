-- The bits of a number with others inserted.
use Rattle.std.proofs.Common.{add-zero, ◌≡◌, ℕ, ◌+◌, ◌-◌, ◌*◌, ◌/◌, ◌%◌, ◌^◌, ◌<◌, ◌≤◌, min, max, Bool, true, false, ◌&&◌, inl, inr, pos, refl, sym, ap, ◌∙◌, arith, bit_and, bit_or, nat_lt}
use Rattle.std.specs.Prelude.{nat_le, if◌then◌else◌}
use Rattle.std.specs.Int.{bit_at, w64}
use Rattle.std.proofs.Math.Nat.{mod-eq_of_lt}
use Rattle.std.proofs.lemmas.Bool.{cases_lt, lt-ltb, le-ltb, le-leb, lt-leb, and_from, and_left, and_right, cond_both}
use Rattle.std.proofs.lemmas.Nat.{pow_pos, shr_split, mod_below}
use Rattle.std.proofs.lemmas.Nat.Bits.{bit_at-lt, bit_at-zero, bit_at_and, bit_at_or, bit_at_not, bit_at_ones, bit_at_ones_above, bit_at_cat_low, bit_at_cat_high}
use Rattle.spv_base.specs.Cell.{Cell, defined_cell}
use Rattle.spv_alu.specs.declared.field_op.FieldOp.{FieldOp}
use Rattle.spv_alu.specs.declared.field_op.FieldOp.TheVariants.{BitFieldInsert}
use Rattle.spv_alu.specs.Fields.{inserted_bit, field_row, field_result}
use Rattle.spv_alu.specs.Integers.{IsWidth, number_of_bits}
use Rattle.spv_alu.specs.Results.{integer}
use Rattle.spv_alu.proofs.BitNumbers.{number_from_bits, number_of_bits_below}
use Rattle.spv_alu.proofs.Widths.{defined_if_true}

-- the bits of a number that is shifted up, and of what is left of one
shifted_below : (a k i : ℕ) → i < k → bit_at (a * 2 ^ k) i ≡ 0
shifted_below a k i h = ap (λ n. bit_at n i) (sym (add-zero (a * 2 ^ k))) ∙ (bit_at_cat_low a k 0 i h ∙ bit_at-zero i)

shifted_above : (a k i : ℕ) → k ≤ i → bit_at (a * 2 ^ k) i ≡ bit_at a (i - k)
shifted_above a k i h = ap (λ n. bit_at n i) (sym (add-zero (a * 2 ^ k))) ∙ bit_at_cat_high a k 0 i (pow_pos k) h

pub bit_of_low : (k n i : ℕ) → i < k → bit_at (n % 2 ^ k) i ≡ bit_at n i
bit_of_low k n i h = sym (bit_at_cat_low (n / 2 ^ k) k (n % 2 ^ k) i h) ∙ ap (λ m. bit_at m i) (shr_split n k)

if_true : (t : Bool) (a b : ℕ) → t ≡ true → (if t then a else b) ≡ a
if_true t a b h = rw h refl

if_false : (t : Bool) (a b : ℕ) → t ≡ false → (if t then a else b) ≡ b
if_false t a b h = rw h refl

-- a bit where the mask is 1 is the other number's, and elsewhere the first one's
chosen : (x s m : ℕ) → x < 2 → s < 2 → m ≡ 1 → max (min x (1 - m)) (min s m) ≡ s
chosen x s m h k e = omega arith

kept : (x s m : ℕ) → x < 2 → m ≡ 0 → max (min x (1 - m)) (min s m) ≡ x
kept x s m h e = omega arith

pub inserted_bits : (base insert offset count ones i : ℕ) → offset + count ≤ 64 → ones ≡ 2 ^ count - 1 → i < 64 → bit_at (bit_or (bit_and base (18446744073709551615 - ones * 2 ^ offset % 18446744073709551616)) (bit_and (insert * 2 ^ offset % 18446744073709551616) (ones * 2 ^ offset % 18446744073709551616))) i ≡ inserted_bit base insert offset count i
inserted_bits base insert offset count ones i within e below =
    let mask = ones * 2 ^ offset % 18446744073709551616 in
    let added = insert * 2 ^ offset % 18446744073709551616 in
    let small : mask < 2 ^ 64 = mod_below (ones * 2 ^ offset) 18446744073709551616 (omega arith) in
    let parts : bit_at (bit_or (bit_and base (18446744073709551615 - mask)) (bit_and added mask)) i ≡ max (min (bit_at base i) (1 - bit_at mask i)) (min (bit_at added i) (bit_at mask i)) =
    bit_at_or (bit_and base (18446744073709551615 - mask)) (bit_and added mask) i
    ∙ (ap (λ n. max n (bit_at (bit_and added mask) i)) (bit_at_and base (18446744073709551615 - mask) i ∙ ap (λ n. min (bit_at base i) n) (bit_at_not w64 mask i small below))
    ∙ ap (λ n. max (min (bit_at base i) (1 - bit_at mask i)) n) (bit_at_and added mask i)) in
    let of_mask : bit_at mask i ≡ bit_at (ones * 2 ^ offset) i = bit_of_low 64 (ones * 2 ^ offset) i below in
    let of_added : bit_at added i ≡ bit_at (insert * 2 ^ offset) i = bit_of_low 64 (insert * 2 ^ offset) i below in
    parts
    ∙ (elim (cases_lt i offset) [
      | inl before ↦
          let none : bit_at mask i ≡ 0 = of_mask ∙ shifted_below ones offset i before in
          kept (bit_at base i) (bit_at added i) (bit_at mask i) (bit_at-lt base i) none
          ∙ sym (if_false (nat_le offset i && nat_lt i (offset + count)) (bit_at insert (i - offset)) (bit_at base i) (and_left _ _ (lt-leb offset i before)))
      | inr from ↦
          elim (cases_lt i (offset + count)) [
            | inl inside ↦
                let place : i - offset < count = omega arith in
                let one : bit_at mask i ≡ 1 =
                of_mask ∙ (shifted_above ones offset i from ∙ (ap (λ n. bit_at n (i - offset)) e ∙ bit_at_ones count (i - offset) place)) in
                chosen (bit_at base i) (bit_at added i) (bit_at mask i) (bit_at-lt base i) (bit_at-lt added i) one
                ∙ (of_added
                ∙ (shifted_above insert offset i from
                ∙ sym (if_true (nat_le offset i && nat_lt i (offset + count)) (bit_at insert (i - offset)) (bit_at base i) (and_from _ _ (le-leb offset i from) (lt-ltb i (offset + count) inside)))))
            | inr after ↦
                let place : count ≤ i - offset = omega arith in
                let none : bit_at mask i ≡ 0 =
                of_mask ∙ (shifted_above ones offset i from ∙ (ap (λ n. bit_at n (i - offset)) e ∙ bit_at_ones_above count (i - offset) place)) in
                kept (bit_at base i) (bit_at added i) (bit_at mask i) (bit_at-lt base i) none
                ∙ sym (if_false (nat_le offset i && nat_lt i (offset + count)) (bit_at insert (i - offset)) (bit_at base i) (and_right _ _ (le-ltb i (offset + count) after)))
          ]
    ])

inserted_bit_below : (base insert offset count i : ℕ) → inserted_bit base insert offset count i < 2
inserted_bit_below base insert offset count i =
    cond_both (nat_le offset i && nat_lt i (offset + count)) (bit_at insert (i - offset)) (bit_at base i) (λ n. n < 2) (λ e. bit_at-lt insert (i - offset)) (λ e. bit_at-lt base i)

-- the row of the insertion, from a number that has its bits
pub inserted_lane : (op : FieldOp) (w base insert offset count n : ℕ) (l : Cell) → op ≡ BitFieldInsert → IsWidth w → offset + count ≤ w → ((i : ℕ) → i < 64 → bit_at n i ≡ inserted_bit base insert offset count i) → l ≡ integer w (pos n) → l ≡ field_result op w base insert offset count
unfolding field_row
inserted_lane op w base insert offset count n l e width within bits h =
    let f = inserted_bit base insert offset count in
    let low : n % 2 ^ w < 2 ^ w = mod_below n (2 ^ w) (pow_pos w) in
    let same : n % 2 ^ w ≡ number_of_bits w f =
    number_from_bits w (n % 2 ^ w) f (inserted_bit_below base insert offset count) low (λ i lt.
    let narrow : i < 64 = omega arith in
    bit_of_low w n i lt ∙ bits i narrow) in
    let whole : number_of_bits w f % 2 ^ w ≡ number_of_bits w f = mod-eq_of_lt (number_of_bits_below w f (inserted_bit_below base insert offset count)) in
    rw e (h ∙ (ap (λ k. defined_cell w k) (same ∙ sym whole) ∙ sym (defined_if_true (nat_le (offset + count) w) _ (le-leb (offset + count) w within))))
