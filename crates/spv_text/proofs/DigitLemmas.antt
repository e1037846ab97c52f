-- Decimal texts without leading zeros, and what stands at the front.
use Rattle.std.proofs.Common.{◌≡◌, ℕ, zero, suc, lit<, decimal, subst, ◌<◌, ◌≤◌, true, Some, None, List, [], ◌∷◌, ◌++◌, length, get_or, refl, sym, ap, ◌∙◌, arith}
use Rattle.std.proofs.lemmas.Bool.{and_parts}
use Rattle.std.specs.List.{list_all}
use Rattle.std.proofs.lemmas.Fmt.{decimal-digits_value, decimal_injective, first_decimal, decimal_digit}
use Rattle.spv_text.specs.Lines.{LeadsWell, HasNoDigit, IsNumber, Lacks}
use Rattle.spv_text.proofs.FrontLemmas.{one_front}
use Rattle.spv_line.specs.Numbers.{is_digit, number_of, value_of}
use Rattle.spv_line.proofs.Exports.{decimal_digits, decimal_some, fits, number_decimal, number_parts, own}

-- digits without leading zeros are the decimal text of what they spell
pub decimal_value : (digits : List ℕ) → list_all is_digit digits ≡ true → 0 < length digits → (get_or digits 0 0 ≡ 48 → length digits ≡ 1) → value_of digits ≤ 4294967295 → decimal (value_of digits) ≡ digits
decimal_value digits all some lead le = decimal-digits_value own digits all some lead (fits _ le)

-- a decimal text has no leading zero
lead_by : (n : ℕ) → n ≤ 4294967295 → get_or (decimal n) 0 0 ≡ 48 → n ≡ 0
lead_by zero h e = refl
lead_by (suc n) h e = let f : 48 < get_or (decimal (suc n)) 0 0 = first_decimal (suc n) (omega arith) (fits _ h) in absurd (omega (arith, e))

pub decimal_lead : (n : ℕ) → n ≤ 4294967295 → get_or (decimal n) 0 0 ≡ 48 → length (decimal n) ≡ 1
decimal_lead n h e = ap (λ m. length (decimal m)) (lead_by n h e) ∙ ap length (decimal_digit 0 (lit< tt))

-- a text begins with one number at most
pub one_number : (m n : ℕ) (r s : List ℕ) → m ≤ 4294967295 → n ≤ 4294967295 → HasNoDigit r → HasNoDigit s → decimal m ++ r ≡ decimal n ++ s → (m ≡ n) × (r ≡ s)
one_number m n r s a b c d e =
    let one = one_front is_digit (decimal m) (decimal n) r s (decimal_digits m a) (decimal_digits n b) c d e in
    (decimal_injective m n (fits m a) (fits n b) one.0, one.1)

pub number_leads : (digits : List ℕ) (n : ℕ) → n ≤ 4294967295 → digits ≡ decimal n → LeadsWell digits
number_leads digits n h e = subst LeadsWell (sym e) (decimal_some n h, decimal_lead n h)

-- what is read as a number, and has no leading zeros, is its decimal text
pub number_is : (digits : List ℕ) (v : ℕ) → LeadsWell digits → number_of 4294967295 digits ≡ Some v → digits ≡ decimal v
number_is digits v lead is =
    let read = number_parts 4294967295 digits v is in
    sym (decimal_value digits read.1 lead.0 lead.1 (omega (arith, read.2, read.3))) ∙ ap decimal read.2

pub number_is_not : (digits : List ℕ) → number_of 4294967295 digits ≡ None → (n : ℕ) → n ≤ 4294967295 → digits ≡ decimal n → ⊥
number_is_not digits none n h d =
    let some : number_of 4294967295 digits ≡ Some n = ap (number_of 4294967295) d ∙ number_decimal n h in
    absurd (cc)

-- no number stands at the front, where its digits are none of a number
pub no_number : (text digits back : List ℕ) → list_all is_digit digits ≡ true → text ≡ digits ++ back → HasNoDigit back → ((n : ℕ) → n ≤ 4294967295 → digits ≡ decimal n → ⊥)
    → Lacks decimal IsNumber HasNoDigit text
no_number text digits back all whole end not n rest h e follows =
    not n h (one_front is_digit digits (decimal n) back rest all (decimal_digits n h) end follows (sym whole ∙ e)).0

-- a decimal text begins with a digit
leads_by : (ds r : List ℕ) → list_all is_digit ds ≡ true → 0 < length ds → is_digit (get_or (ds ++ r) 0 0) ≡ true
leads_by [] r h k = absurd (omega arith)
leads_by (d ∷ ds) r h k = (and_parts (is_digit d) (list_all is_digit ds) h).0

pub decimal_leads : (n : ℕ) (r : List ℕ) → n ≤ 4294967295 → is_digit (get_or (decimal n ++ r) 0 0) ≡ true
decimal_leads n r h = leads_by (decimal n) r (decimal_digits n h) (decimal_some n h)
