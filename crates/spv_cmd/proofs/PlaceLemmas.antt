-- Lines of source files that are read can be written, in no more bytes; what is cut at the last colon is the file and the line.
use Rattle.std.proofs.Common.{◌≡◌, ℕ, ◌<◌, ◌≤◌, true, not, ◌&&◌, nat_eq, inl, inr, decimal, append_assoc, subst, List, [], ◌∷◌, ◌++◌, length, take, drop, Option, Some, None, refl, sym, ap, ◌∙◌, arith}
use Rattle.std.proofs.lemmas.Bool.{and_parts, and_from, leb-true, le-leb}
use Rattle.std.specs.List.{list_all}
use Rattle.std.proofs.lemmas.List.{take-append-drop, length-append, same_from_push}
use Rattle.std.proofs.lemmas.List.Folds.{list_all-append}
use Rattle.std.proofs.lemmas.Bool.Decides.{nat_tests}
use Rattle.spv_line.specs.Words.{is_other}
use Rattle.spv_line.proofs.Exports.{first_are}
use Rattle.spv_line.specs.Numbers.{is_digit}
use Rattle.spv_cmd.specs.Numbers.{number_of}
use Rattle.spv_cmd.specs.Places.{IsPlace, is_place, place_text, is_no_colon, EndsInColon}
use Rattle.spv_cmd.proofs.BoolLemmas.{all_also}
use Rattle.spv_cmd.proofs.NumberLemmas.{number_parts, number_decimal, decimal_short}

digit_no_colon : (b : ℕ) → is_digit b ≡ true → is_no_colon b ≡ true
digit_no_colon b h = grind (arith, nat_tests)

pub number_no_colon : (digits : List ℕ) (n : ℕ) → number_of digits ≡ Some n → list_all is_no_colon digits ≡ true
number_no_colon digits n h = all_also is_digit is_no_colon digit_no_colon digits (number_parts digits n h).1

-- no colon stands in a text with a colon in it
pub no_colon_in : (front back : List ℕ) → ¬ (list_all is_no_colon (front ++ 58 ∷ back) ≡ true)
no_colon_in [] back h = absurd (cc)
no_colon_in (b ∷ front) back h = no_colon_in front back (and_parts _ _ h).1

-- the last colon parts a text in one way
pub one_cut : (f g xs ys : List ℕ) → f ++ 58 ∷ xs ≡ g ++ 58 ∷ ys → list_all is_no_colon xs ≡ true → list_all is_no_colon ys ≡ true → (f ≡ g) × (xs ≡ ys)
one_cut [] [] xs ys e p q = (refl, (first_are 58 58 xs ys e).1)
one_cut [] (y ∷ g) xs ys e p q = absurd (no_colon_in g ys (ap (list_all is_no_colon) (sym (first_are 58 y xs (g ++ 58 ∷ ys) e).1) ∙ p))
one_cut (x ∷ f) [] xs ys e p q = absurd (no_colon_in f xs (ap (list_all is_no_colon) (first_are x 58 (f ++ 58 ∷ xs) ys e).1 ∙ q))
one_cut (x ∷ f) (y ∷ g) xs ys e p q =
    let first = first_are x y (f ++ 58 ∷ xs) (g ++ 58 ∷ ys) e in
    let rest = one_cut f g xs ys first.1 p q in
    (ap (λ l. x ∷ l) rest.0 ∙ ap (λ b. b ∷ g) first.0, rest.1)

-- what is read from a text without spaces can be written, in no more bytes
pub place_form : (p : Option (List ℕ) × ℕ) (text : List ℕ) → IsPlace p text → list_all is_other text ≡ true → (is_place p ≡ true) × (length (place_text p) ≤ length text)
place_form (None, line) text h whole = (le-leb line 4294967295 (number_parts text line h).3, decimal_short text line h)
place_form (Some file, line) text h whole =
    let spaces : (list_all is_other file && list_all is_other (58 ∷ h.0)) ≡ true = sym (list_all-append is_other file (58 ∷ h.0)) ∙ ap (list_all is_other) (sym h.1) ∙ whole in
    let some : not (nat_eq (length file) 0) ≡ true = grind (arith, nat_tests) in
    let short = decimal_short h.0 line h.3 in (
      and_from _ _ some (and_from _ _ (and_parts _ _ spaces).0 (le-leb line 4294967295 (number_parts h.0 line h.3).3)),
      omega (arith, short, ap length h.1, length-append file (58 ∷ h.0), length-append file (58 ∷ decimal line)),
    )

-- what is written is read as the place
pub place_again : (p : Option (List ℕ) × ℕ) → is_place p ≡ true → IsPlace p (place_text p)
place_again (None, line) h = number_decimal line (leb-true line 4294967295 h)
place_again (Some file, line) h =
    let one = and_parts _ _ h in
    let two = and_parts _ _ one.1 in
    let some : 0 < length file = let test = one.0 in grind (arith, nat_tests) in
    (decimal line, refl, some, number_decimal line (leb-true line 4294967295 two.1))

-- ---- a text that is cut behind its last colon

-- digits without a colon are what the number is read from
cut_digits : (p : Option (List ℕ) × ℕ) (text front digits : List ℕ) → text ≡ front ++ digits → EndsInColon front → list_all is_no_colon digits ≡ true → IsPlace p text → number_of digits ≡ Some p.1
cut_digits (None, line) text front digits e (inl empty) last h = ap number_of (sym (e ∙ ap (λ f. f ++ digits) empty)) ∙ h
cut_digits (None, line) text front digits e (inr f) last h =
    let colon : text ≡ f.0 ++ 58 ∷ digits = e ∙ ap (λ l. l ++ digits) f.1 ∙ append_assoc f.0 (58 ∷ []) digits in
    absurd (no_colon_in f.0 digits (ap (list_all is_no_colon) (sym colon) ∙ number_no_colon text line h))
cut_digits (Some file, line) text front digits e (inl empty) last h =
    let colon : file ++ 58 ∷ h.0 ≡ digits = sym h.1 ∙ e ∙ ap (λ l. l ++ digits) empty in
    absurd (no_colon_in file h.0 (ap (list_all is_no_colon) colon ∙ last))
cut_digits (Some file, line) text front digits e (inr f) last h =
    let same : f.0 ++ 58 ∷ digits ≡ file ++ 58 ∷ h.0 = sym (e ∙ ap (λ l. l ++ digits) f.1 ∙ append_assoc f.0 (58 ∷ []) digits) ∙ h.1 in
    ap number_of (one_cut f.0 file digits h.0 same last (number_no_colon h.0 line h.3)).1 ∙ h.3

-- what is cut is the text
cut_whole : (text front digits : List ℕ) (n : ℕ) → front ≡ take n text → digits ≡ drop n text → text ≡ front ++ digits
cut_whole text front digits n e f = sym (ap (λ a. a ++ digits) e ∙ ap (λ b. take n text ++ b) f ∙ take-append-drop n text)

pub no_line : (text front digits : List ℕ) (n : ℕ) → front ≡ take n text → digits ≡ drop n text → EndsInColon (take n text) → list_all is_no_colon (drop n text) ≡ true → number_of digits ≡ None → (p : Option (List ℕ) × ℕ) → ¬ IsPlace p text
no_line text front digits n e f colon last none p h =
    let some = cut_digits p text front digits (cut_whole text front digits n e f) (subst EndsInColon (sym e) colon) (ap (list_all is_no_colon) f ∙ last) h in
    let no : None ≡ Some p.1 = sym none ∙ some in
    absurd (cc)

-- the byte before the cut is the colon
colon_before : (front file : List ℕ) (b : ℕ) → EndsInColon front → front ≡ file ++ b ∷ [] → front ≡ file ++ 58 ∷ []
colon_before front file b (inl empty) e = let long = ap length (sym e ∙ empty) in absurd (omega (arith, long, length-append file (b ∷ [])))
colon_before front file b (inr f) e = e ∙ ap (λ c. file ++ c ∷ []) (same_from_push file f.0 b 58 (sym e ∙ f.1)).1

pub file_is : (text front digits file : List ℕ) (b n line : ℕ) → front ≡ take n text → digits ≡ drop n text → EndsInColon (take n text) → front ≡ file ++ b ∷ [] → 0 < length file → number_of digits ≡ Some line → IsPlace (Some file, line) text
file_is text front digits file b n line e f colon cut some h =
    let before = colon_before front file b (subst EndsInColon (sym e) colon) cut in
    (digits, cut_whole text front digits n e f ∙ ap (λ l. l ++ digits) before ∙ append_assoc file (58 ∷ []) digits, some, h)

pub no_file : (text front digits file : List ℕ) (b n : ℕ) → front ≡ take n text → digits ≡ drop n text → EndsInColon (take n text) → list_all is_no_colon (drop n text) ≡ true → front ≡ file ++ b ∷ [] → file ≡ [] → (p : Option (List ℕ) × ℕ) → ¬ IsPlace p text
no_file text front digits file b n e f colon last cut empty p h = no_file_by p h
  where
    begins : text ≡ 58 ∷ digits
    begins = cut_whole text front digits n e f ∙ ap (λ l. l ++ digits) (colon_before front file b (subst EndsInColon (sym e) colon) cut ∙ ap (λ l. l ++ 58 ∷ []) empty)

    no_file_by : (p : Option (List ℕ) × ℕ) → IsPlace p text → ⊥
    no_file_by (None, line) k = no_colon_in [] digits (ap (list_all is_no_colon) (sym begins) ∙ number_no_colon text line k)
    no_file_by (Some name, line) k =
        let same = one_cut [] name digits k.0 (sym begins ∙ k.1) (ap (list_all is_no_colon) f ∙ last) (number_no_colon k.0 line k.3) in
        absurd (omega (arith, k.2, ap length same.0))
