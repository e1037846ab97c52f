-- Numbers in a line: what decimal digits spell.
use Rattle.std.specs.Prelude.{ℕ, ◌+◌, ◌-◌, ◌*◌, nat_lt, nat_le, ◌&&◌, Bool, if◌then◌else◌, List, length, Option, Some, None, fold}
use Rattle.std.specs.List.{list_all}

-- the digits `0` to `9` are the bytes 48 to 57
abbrev pub is_digit : ℕ → Bool
is_digit b = nat_le 48 b && nat_le b 57

-- the number that digits spell
abbrev pub value_of : List ℕ → ℕ
value_of digits = fold (λ n b. 10 * n + (b - 48)) 0 digits

-- the number of one or more digits, where it is at most a limit; leading zeros are read
unfoldable pub number_of : ℕ → List ℕ → Option ℕ
number_of limit digits = if nat_lt 0 (length digits) && (list_all is_digit digits && nat_le (value_of digits) limit) then Some (value_of digits) else None
