-- The texts of numbers that have some bits, by the Encoding of their TypeBasic (NonSemantic.Shader.DebugInfo.100, this project's profile): Unspecified (0),
-- Address (1), Boolean (2), Float (3), Signed (4), SignedChar (5), Unsigned (6) and UnsignedChar (7). Others are written as Unspecified.
use Rattle.std.specs.Prelude.{ℕ, zero, suc, ◌+◌, ◌*◌, ◌/◌, ◌%◌, ◌^◌, ◌==◌, ◌||◌, nat_lt, if◌then◌else◌, Bool, List, [], ◌∷◌, ◌++◌, codes, decimal}
use Rattle.std.specs.Fmt.{signed_decimal}
use Rattle.spv_alu.specs.Integers.{signed}
use Rattle.spv_print.specs.declared.leaves.Leaf.{Leaf}

abbrev pub is_signed : ℕ → Bool
is_signed encoding = encoding == 4 || encoding == 5

abbrev pub boolean_text : ℕ → List ℕ
boolean_text n = if n == 0 then codes "false" else codes "true"

-- a lower-case hexadecimal digit
abbrev pub hex_digit : ℕ → ℕ
hex_digit n = if nat_lt n 10 then 48 + n else 87 + n

-- the lowest so many digits of a number, each for four bits
abbrev pub hex_digits : ℕ → ℕ → List ℕ
hex_digits zero n = []
hex_digits (suc k) n = hex_digit (n / 2 ^ (4 * k) % 16) ∷ hex_digits k n

-- as many as so many bits have
abbrev pub float_text : ℕ → ℕ → List ℕ
float_text size n = codes "0x" ++ hex_digits ((size + 3) / 4) n

abbrev pub decimal_text : Leaf → ℕ → List ℕ
decimal_text leaf n = if is_signed leaf.encoding then signed_decimal (signed leaf.size n) else decimal n

abbrev pub basic_text : Leaf → ℕ → List ℕ
basic_text leaf n = if leaf.encoding == 2 then boolean_text n else if leaf.encoding == 3 then float_text leaf.size n else decimal_text leaf n
