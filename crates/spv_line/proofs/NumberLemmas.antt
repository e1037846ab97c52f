-- Digits: a number that was read digit by digit, up to 2 ^ 64, is the number that they spell; decimal texts.
use Rattle.std.proofs.Common.{◌≡◌, ℕ, ◌+◌, ◌-◌, ◌*◌, ◌<◌, ◌≤◌, ◌^◌, min, Bool, true, false, cond, ◌&&◌, List, length, Some, None, decimal, fold, refl, ap, ◌∙◌, arith}
use Rattle.std.specs.Int.{IsInRange}
use Rattle.std.specs.List.{list_all}
use Rattle.std.proofs.lemmas.Bool.{and_parts, and_from, leb-true, le-leb, lt-ltb, ltb-true}
use Rattle.std.proofs.lemmas.Fmt.{digits_decimal, digits_value-decimal, decimal_nonempty}
use Rattle.std.proofs.lemmas.Str.Parse.{IsDigitsTest, IsNumeralModel, numerals_by_fold}
use Rattle.spv_line.specs.Numbers.{number_of, value_of, is_digit}

pub all_true : (a b c : Bool) → a ≡ true → b ≡ true → c ≡ true → (a && (b && c)) ≡ true
all_true a b c p q r = ap (λ x. x && (b && c)) p ∙ ap (λ x. x && c) q ∙ r

pub number_is : (digits : List ℕ) (v limit : ℕ) → 0 < length digits → list_all is_digit digits ≡ true → v ≡ min (value_of digits) (2 ^ 64) → limit < 2 ^ 64 → v ≤ limit → number_of limit digits ≡ Some v
unfolding number_of
number_is digits v limit some all is small le =
    let e : value_of digits ≡ v = omega arith in
    let l : value_of digits ≤ limit = omega arith in
    ap (λ b. cond b (Some (value_of digits)) None) (all_true _ _ _ (lt-ltb 0 (length digits) some) all (le-leb (value_of digits) limit l)) ∙ ap Some e

some_where : (b : Bool) (v n : ℕ) → cond b (Some v) None ≡ Some n → (b ≡ true) × (v ≡ n)
some_where true v n h = (refl, cc)
some_where false v n h = absurd (cc)

-- what is read as a number
pub number_parts : (limit : ℕ) (digits : List ℕ) (n : ℕ) → number_of limit digits ≡ Some n → (0 < length digits) × (list_all is_digit digits ≡ true) × (value_of digits ≡ n) × (n ≤ limit)
unfolding number_of
number_parts limit digits n h =
    let one = some_where _ (value_of digits) n h in
    let two = and_parts _ _ one.0 in
    let three = and_parts _ _ two.1 in
    let le : value_of digits ≤ limit = leb-true _ _ three.1 in
    (ltb-true _ _ two.0, three.0, one.1, omega (arith, le, one.1))

-- ---- decimal texts

-- the test and the number of digits, as std has them
digits_test : IsDigitsTest (λ ds. list_all is_digit ds ≡ true)
digits_test = record {
  empty = refl;
  parts = λ c cs h. digit_in c cs (and_parts (is_digit c) (list_all is_digit cs) h);
  more = λ c cs r h. and_from (is_digit c) (list_all is_digit cs) (in_digit c r) h;
}
  where
    digit_in : (c : ℕ) (cs : List ℕ) → (is_digit c ≡ true) × (list_all is_digit cs ≡ true) → IsInRange 48 57 c × (list_all is_digit cs ≡ true)
    digit_in c cs h = let both = and_parts _ _ h.0 in let low = leb-true 48 c both.0 in let high = leb-true c 57 both.1 in ((low, high), h.1)

    in_digit : (c : ℕ) → IsInRange 48 57 c → is_digit c ≡ true
    in_digit c r = and_from _ _ (le-leb 48 c r.0) (le-leb c 57 r.1)

pub own : IsNumeralModel (λ ds. list_all is_digit ds ≡ true) value_of
own = numerals_by_fold _ digits_test (λ n ds. fold (λ m b. 10 * m + (b - 48)) n ds) (record {
  empty = λ n. refl;
  more = λ n c cs r. ap (λ m. fold (λ m b. 10 * m + (b - 48)) m cs) (step n c);
})
  where
    step : (n c : ℕ) → 10 * n + (c - 48) ≡ n * 10 + (c - 48)
    step n c = omega arith

pub fits : (n : ℕ) → n ≤ 4294967295 → n < 2 ^ 64
fits n h = omega arith

pub decimal_digits : (n : ℕ) → n ≤ 4294967295 → list_all is_digit (decimal n) ≡ true
decimal_digits n h = digits_decimal own n (fits n h)

pub value_decimal : (n : ℕ) → n ≤ 4294967295 → value_of (decimal n) ≡ n
value_decimal n h = digits_value-decimal own n (fits n h)

pub decimal_some : (n : ℕ) → n ≤ 4294967295 → 0 < length (decimal n)
decimal_some n h = decimal_nonempty n (fits n h)

-- a decimal text is read as its number
pub number_decimal : (n : ℕ) → n ≤ 4294967295 → number_of 4294967295 (decimal n) ≡ Some n
unfolding number_of
number_decimal n h =
    let value = value_decimal n h in
    let le : value_of (decimal n) ≤ 4294967295 = omega (arith, value) in
    ap (λ b. cond b (Some (value_of (decimal n))) None) (all_true _ _ _ (lt-ltb 0 (length (decimal n)) (decimal_some n h)) (decimal_digits n h) (le-leb (value_of (decimal n)) 4294967295 le)) ∙ ap Some value
