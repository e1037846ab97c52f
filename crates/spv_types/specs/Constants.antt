-- Which instructions define constants (SPIR-V 1.6 section 3.42.7).
use Rattle.std.specs.Prelude.{ℕ, ◌==◌, ◌&&◌, ◌||◌, nat_le, Bool}

-- ConstantTrue, ConstantFalse, Constant, ConstantComposite, ConstantNull, and the five specialization constants
abbrev pub is_constant : ℕ → Bool
is_constant op = (nat_le 41 op && nat_le op 44 || op == 46) || nat_le 48 op && nat_le op 52
