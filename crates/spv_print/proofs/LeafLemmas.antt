-- The bits of a leaf, one after another.
use Rattle.std.proofs.Common.{◌≡◌, ◌∙◌, ℕ, ◌+◌, ◌-◌, ◌*◌, ◌^◌, ◌<◌, ◌≤◌, inl, inr, Bool, true, false, ◌&&◌, List, length, min, refl, sym, ap, add-one, arith}
use Rattle.std.proofs.Math.Nat.{pow-suc}
use Rattle.std.proofs.lemmas.Nat.{mul-add-lt}
use Rattle.std.proofs.lemmas.List.{get_or_past}
use Rattle.std.proofs.lemmas.Bool.{cases_lt}
use Rattle.std.specs.Prelude.{if◌then◌else◌}
use Rattle.spv_alu.specs.Integers.{number_of_bits}
use Rattle.spv_alu.specs.Vectors.{all_below}
use Rattle.spv_dbg.specs.declared.frames.Bit.{Bit}
use Rattle.spv_print.specs.Leaves.{bits_in, digit, unbound}

-- no list is so long that its last bit isn't reached
pub reached : (bits : List Bit) (k : ℕ) → length bits < 2 ^ 64 → bits_in bits (min k (2 ^ 64 - 1)) ≡ bits_in bits k
reached bits k short = elim (cases_lt k (2 ^ 64 - 1)) [
  | inl within ↦ let same : min k (2 ^ 64 - 1) ≡ k = omega (arith, within) in rw same refl
  | inr past ↦
      let last : length bits ≤ min k (2 ^ 64 - 1) = omega (arith, past, short) in
      let far : length bits ≤ k = omega (arith, past, short) in
      get_or_past bits (min k (2 ^ 64 - 1)) unbound last ∙ sym (get_or_past bits k unbound far)
]

pub digit-lt : (b : Bit) → digit b < 2
digit-lt b = by b.one
  where
    by : (one : Bool) → (if one then 1 else 0) < 2
    by true = omega arith
    by false = omega arith

pub next_number : (f : ℕ → ℕ) (n d i : ℕ) → n ≡ number_of_bits i f → d ≡ f i → n + d * 2 ^ i ≡ number_of_bits (i + 1) f
unfolding number_of_bits
next_number f n d i e g = rw (add-one i) (ap (λ m. m + d * 2 ^ i) e ∙ ap (λ m. number_of_bits i f + m * 2 ^ i) g)

pub next_fits : (n d i : ℕ) → n < 2 ^ i → d < 2 → n + d * 2 ^ i < 2 ^ (i + 1)
next_fits n d i fits small =
    let whole : d * 2 ^ i + n < 2 ^ i * 2 = mul-add-lt d (2 ^ i) n 2 small fits in
    rw (add-one i) (omega (arith, pow-suc 2 i))

pub next_test : (f : ℕ → Bool) (holds test : Bool) (i : ℕ) → holds ≡ all_below i f → test ≡ f i → (holds && test) ≡ all_below (i + 1) f
unfolding all_below
next_test f holds test i e g = rw (add-one i) (ap (λ b. b && test) e ∙ ap (λ b. all_below i f && b) g)
