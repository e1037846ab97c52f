-- Numbers in a line.
use Rattle.std.specs.Prelude.{ℕ, List, Option}
use Rattle.spv_line.specs.Numbers.{number_of as number_within}

-- the number of one or more digits, where it is at most 2^32 - 1; leading zeros are read
unfoldable pub number_of : List ℕ → Option ℕ
number_of digits = number_within 4294967295 digits
