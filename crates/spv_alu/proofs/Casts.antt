-- A number taken bit by bit, the lowest first.
use Rattle.std.proofs.Common.{◌≡◌, ℕ, suc, ◌+◌, ◌*◌, ◌%◌, ◌^◌, ◌<◌, ◌≤◌, Bool, ◌&&◌, List, pos, ap, ◌∙◌, arith, add-one}
use Rattle.std.proofs.Math.Nat.{pow-suc, mod-eq_of_lt}
use Rattle.std.proofs.Math.Pow.{pow_mono}
use Rattle.std.proofs.lemmas.Nat.{mul-add-lt, shl_whole}
use Rattle.std.proofs.lemmas.Nat.Bits.{bit_at-lt}
use Rattle.spv_base.specs.Cell.{Cell, defined_cell}
use Rattle.spv_alu.specs.Integers.{number_of_bits}
use Rattle.spv_alu.specs.Results.{integer, defined_if}
use Rattle.spv_alu.specs.Vectors.{all_below, component_at, joined_bit, bitcast_of}
use Rattle.spv_alu.proofs.BitNumbers.{number_of_bits_below}

-- one more bit
pub next_bit_fits : (bits bit i : ℕ) (f : ℕ → ℕ) → ((j : ℕ) → f j < 2) → bits ≡ number_of_bits i f → bit ≡ f i → i < 64 → (bit * 2 ^ i % 2 ^ 64 ≡ bit * 2 ^ i) × (bits + bit * 2 ^ i < 2 ^ 64)
next_bit_fits bits bit i f small e g narrow =
    let bound : number_of_bits i f < 2 ^ i = number_of_bits_below i f small in
    let below : bits < 2 ^ i = omega arith in
    let fi : f i < 2 = small i in
    let one : bit < 2 = omega arith in
    let room : 1 + i ≤ 64 = omega arith in
    let whole : bit * 2 ^ i + bits < 2 ^ i * 2 = mul-add-lt bit (2 ^ i) bits 2 one below in
    let high : 2 ^ suc i ≤ 2 ^ 64 = pow_mono narrow in
    (shl_whole bit 1 i 64 one room, omega (arith, pow-suc 2 i))

pub next_bit : (bits bit i : ℕ) (f : ℕ → ℕ) → ((j : ℕ) → f j < 2) → bits ≡ number_of_bits i f → bit ≡ f i → i < 64 → bits + bit * 2 ^ i % 2 ^ 64 ≡ number_of_bits (i + 1) f
unfolding number_of_bits
next_bit bits bit i f small e g narrow =
    let fits = next_bit_fits bits bit i f small e g narrow in
    rw (add-one i) (ap (λ n. bits + n) (fits.0 ∙ ap (λ n. n * 2 ^ i) g) ∙ ap (λ n. n + f i * 2 ^ i) e)

pub next_test : (holds test : Bool) (i : ℕ) (f : ℕ → Bool) → holds ≡ all_below i f → test ≡ f i → (holds && test) ≡ all_below (i + 1) f
unfolding all_below
next_test holds test i f e g = rw (add-one i) (ap (λ b. b && test) e ∙ ap (λ b. all_below i f && b) g)

pub joined_bit_below : (lanes : List Cell) (w index j : ℕ) → joined_bit lanes (index * w + j) < 2
joined_bit_below lanes w index j = bit_at-lt _ _

-- the component, from all its bits
pub cast_lane : (lanes : List Cell) (w index i bits : ℕ) (defined : Bool) (cell lane : Cell) → i ≡ w → bits ≡ number_of_bits i (λ j. joined_bit lanes (index * w + j)) → defined ≡ all_below i (λ j. (component_at lanes (index * w + j)).defined) → cell ≡ integer w (pos bits) → lane ≡ defined_if defined cell → lane ≡ bitcast_of lanes w index
unfolding bitcast_of
cast_lane lanes w index i bits defined cell lane end e d h k =
    let f : ℕ → ℕ = λ j. joined_bit lanes (index * w + j) in
    let g : ℕ → Bool = λ j. (component_at lanes (index * w + j)).defined in
    let same : bits ≡ number_of_bits w f = e ∙ ap (λ n. number_of_bits n f) end in
    let whole : bits % 2 ^ w ≡ number_of_bits w f = ap (λ n. n % 2 ^ w) same ∙ mod-eq_of_lt (number_of_bits_below w f (joined_bit_below lanes w index)) in
    k
    ∙ (ap (λ b. defined_if b cell) (d ∙ ap (λ n. all_below n g) end)
    ∙ ap (λ l. defined_if (all_below w g) l) (h ∙ ap (λ n. defined_cell w n) whole))
