-- Saturated numbers: the greatest of 64 bits at most, as arithmetic that stops there gives them.
use Rattle.std.specs.Prelude.{ℕ, ◌-◌, ◌^◌, min}

abbrev pub saturated : ℕ → ℕ
saturated n = min n (2 ^ 64 - 1)

-- a pair with its first number saturated
abbrev pub saturated_first : ℕ × ℕ → ℕ × ℕ
saturated_first p = (saturated p.0, p.1)
