-- Integers as bits in two's complement, as the instructions on integers read and give them (SPIR-V 1.6, section "Arithmetic Instructions").
use Rattle.std.specs.Prelude.{ℕ, zero, suc, ◌+◌, ◌-◌, ◌*◌, ◌^◌, ◌<◌, ◌≤◌, nat_lt, if◌then◌else◌, ℤ, pos, negsuc, neg_ℤ, unsigned_abs}
use Rattle.std.specs.Int.{int_rem_euclid}

-- a width that an integer or a Boolean may have
abbrev pub IsWidth : ℕ → Type 0
IsWidth w = (0 < w) × (w ≤ 64)

-- the integer that the bits n of a width stand for where they are read as signed: n, or n - 2 ^ w where the highest bit is set
unfoldable pub signed : ℕ → ℕ → ℤ
signed w n = if nat_lt (2 * n) (2 ^ w) then pos n else negsuc (2 ^ w - 1 - n)

-- the low-order w bits of an integer, which are what is left of it modulo 2 ^ w
abbrev pub low_bits : ℕ → ℤ → ℕ
low_bits w z = unsigned_abs (int_rem_euclid z (pos (2 ^ w)))

-- the remainder of x divided by y that is 0 or has the sign of y
abbrev pub int_mod : ℤ → ℤ → ℤ
int_mod x (pos d) = int_rem_euclid x (pos d)
int_mod x (negsuc d) = neg_ℤ (int_rem_euclid (neg_ℤ x) (pos (suc d)))

-- the number of so many bits, whose bit i is `bit i`
unfoldable pub number_of_bits : ℕ → (ℕ → ℕ) → ℕ
number_of_bits zero bit = 0
number_of_bits (suc k) bit = number_of_bits k bit + bit k * 2 ^ k
