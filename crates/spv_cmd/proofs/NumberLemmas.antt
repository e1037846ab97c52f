-- Numbers that are read, and their decimal texts.
use Rattle.std.proofs.Common.{◌≡◌, ℕ, decimal, subst, ◌<◌, ◌≤◌, ◌^◌, true, List, length, Some, arith}
use Rattle.std.specs.List.{list_all}
use Rattle.std.proofs.lemmas.Str.Parse.{digits_value_short}
use Rattle.std.proofs.lemmas.Fmt.{length-decimal-le}
use Rattle.spv_line.specs.Numbers.{value_of, is_digit}
use Rattle.spv_line.proofs.Exports.{fits, own, number_parts as parts_within, number_decimal as decimal_within}
use Rattle.spv_cmd.specs.Numbers.{number_of}

-- what is read as a number
pub number_parts : (digits : List ℕ) (n : ℕ) → number_of digits ≡ Some n → (0 < length digits) × (list_all is_digit digits ≡ true) × (value_of digits ≡ n) × (n ≤ 4294967295)
unfolding number_of
number_parts digits n h = parts_within 4294967295 digits n h

-- a decimal text is read as its number
pub number_decimal : (n : ℕ) → n ≤ 4294967295 → number_of (decimal n) ≡ Some n
unfolding number_of
number_decimal n h = decimal_within n h

-- the decimal text of a number has no more bytes than what it was read from
pub decimal_short : (digits : List ℕ) (n : ℕ) → number_of digits ≡ Some n → length (decimal n) ≤ length digits
decimal_short digits n h =
    let read = number_parts digits n h in
    let small : value_of digits < 10 ^ length digits = digits_value_short own digits (length digits) read.1 (omega arith) in
    length-decimal-le (length digits) n read.0 (subst (λ v. v < 10 ^ length digits) read.2 small) (fits n read.3)
