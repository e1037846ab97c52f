-- The first word of a line, and the words after it.
use Rattle.std.proofs.Common.{◌≡◌, ℕ, suc, ◌+◌, ◌-◌, ◌<◌, ◌≤◌, Bool, true, false, not, cond, ◌&&◌, List, [], ◌∷◌, length, take, drop, get_or, nat_eq, refl, sym, ap, ◌∙◌, arith, drop-cons, drop_of_length-le, subst, length-drop, nat_lt, Some, None, unwrap_or}
use Rattle.std.specs.Prelude.{filter}
use Rattle.std.proofs.lemmas.List.{length-take-le, take_all, drop-drop}
use Rattle.std.specs.List.{position, position_or_len, slice_split, list_all}
use Rattle.std.proofs.lemmas.List.Splits.{slice_split-cons_yes, slice_split_first, slice_split_none}
use Rattle.std.proofs.lemmas.List.Sums.{passes_at_first, fails_before_first}
use Rattle.spv_base.proofs.Exports.{no_place, some_place}
use Rattle.spv_line.specs.Words.{is_space, is_other, words_in, HasFirstWord, HasOnlyWord}

words_space : (x : ℕ) (xs : List ℕ) → is_space x ≡ true → words_in (x ∷ xs) ≡ words_in xs
words_space x xs h = ap (filter (λ word. not (nat_eq (length word) 0))) (slice_split-cons_yes is_space x xs h)

-- the first spaces change nothing
skip_by : (b : Bool) (x : ℕ) (xs : List ℕ) → is_space x ≡ b → words_in (drop (position_or_len is_other xs) xs) ≡ words_in xs → words_in (drop (cond (not (not b)) (1 + position_or_len is_other xs) 0) (x ∷ xs)) ≡ words_in (x ∷ xs)
skip_by true x xs h ih = let e : 1 + position_or_len is_other xs ≡ suc (position_or_len is_other xs) = omega arith in ap (λ n. words_in (drop n (x ∷ xs))) e ∙ ih ∙ sym (words_space x xs h)
skip_by false x xs h ih = refl

pub words_skip : (xs : List ℕ) → words_in (drop (position_or_len is_other xs) xs) ≡ words_in xs
words_skip [] = refl
words_skip (x ∷ xs) = skip_by (is_space x) x xs refl (words_skip xs)

within_by : (b : Bool) (n m : ℕ) → n ≤ m → cond b (1 + n) 0 ≤ suc m
within_by true n m h = omega arith
within_by false n m h = omega arith

pub place_within : (p : ℕ → Bool) (xs : List ℕ) → position_or_len p xs ≤ length xs
place_within p [] = omega arith
place_within p (x ∷ xs) = within_by (not (p x)) (position_or_len p xs) (length xs) (place_within p xs)

no_words : (n : ℕ) (xs : List ℕ) → length xs ≤ n → words_in (drop n xs) ≡ []
no_words n xs h = ap words_in (drop_of_length-le xs h)

pub place_or_end : (n m : ℕ) → n ≤ m → unwrap_or (cond (nat_lt n m) (Some n) None) m ≡ n
place_or_end n m h = grind arith

-- where each byte is a space there is no word
pub words_none : (xs : List ℕ) → None ≡ position is_other xs → words_in xs ≡ []
words_none xs h = sym (words_skip xs) ∙ no_words (position_or_len is_other xs) xs (no_place _ _ h)

pub some_word : (word : List ℕ) (words : List (List ℕ)) → 0 < length word → filter (λ w. not (nat_eq (length w) 0)) (word ∷ words) ≡ word ∷ filter (λ w. not (nat_eq (length w) 0)) words
some_word word words h = let e : nat_eq (length word) 0 ≡ false = grind arith in ap (λ b. cond (not b) (word ∷ filter (λ w. not (nat_eq (length w) 0)) words) (filter (λ w. not (nat_eq (length w) 0)) words)) e

-- no space stands before the first
others_by : (b : Bool) (x n : ℕ) (xs : List ℕ) → is_space x ≡ b → list_all is_other (take n xs) ≡ true → list_all is_other (take (cond (not b) (1 + n) 0) (x ∷ xs)) ≡ true
others_by true x n xs h ih = refl
others_by false x n xs h ih =
    let e : 1 + n ≡ suc n = omega arith in
    ap (λ m. list_all is_other (take m (x ∷ xs))) e ∙ ap (λ c. not c && list_all is_other (take n xs)) h ∙ ih

pub others_before : (xs : List ℕ) → list_all is_other (take (position_or_len is_space xs) xs) ≡ true
others_before [] = refl
others_before (x ∷ xs) = others_by (is_space x) x (position_or_len is_space xs) xs refl (others_before xs)

other_first : (b : Bool) (n : ℕ) → not b ≡ true → 0 < cond (not b) (1 + n) 0
other_first true n h = absurd (cc)
other_first false n h = omega arith

-- the words of a text are those of what follows its first spaces
after_spaces : (xs ys : List ℕ) (start : ℕ) → Some start ≡ position is_other xs → ys ≡ drop start xs → (words_in xs ≡ words_in ys) × (0 < position_or_len is_space ys) × (length ys ≤ length xs)
after_spaces xs ys start h e =
    let at = some_place (position_or_len is_other xs) (length xs) start h in
    let same : ys ≡ drop (position_or_len is_other xs) xs = e ∙ ap (λ n. drop n xs) at.0 in
    let first : ys ≡ get_or xs (position_or_len is_other xs) 0 ∷ drop (suc (position_or_len is_other xs)) xs = same ∙ drop-cons xs (position_or_len is_other xs) 0 at.1 in
    let some : 0 < position_or_len is_space ys = subst (λ zs. 0 < position_or_len is_space zs) (sym first) (other_first (is_space (get_or xs (position_or_len is_other xs) 0)) (position_or_len is_space (drop (suc (position_or_len is_other xs)) xs)) (passes_at_first is_other xs 0 at.1)) in
    let long : length ys ≤ length xs = omega (arith, ap length e, length-drop start xs) in
    (sym (words_skip xs) ∙ ap words_in (sym same), some, long)

-- a first word that a space ends
pub first_at_space : (xs ys word after rest : List ℕ) (start end : ℕ) → Some start ≡ position is_other xs → ys ≡ drop start xs → Some end ≡ position is_space ys → word ≡ take end ys → after ≡ drop end ys → rest ≡ drop 1 after → HasFirstWord xs word rest
first_at_space xs ys word after rest start end h e k front back skip =
    let skipped = after_spaces xs ys start h e in
    let at = some_place (position_or_len is_space ys) (length ys) end k in
    let n = position_or_len is_space ys in
    let long : length (take n ys) ≡ n = length-take-le n ys (place_within is_space ys) in
    let some : 0 < length (take n ys) = omega (arith, long, skipped.1) in
    let cut : words_in ys ≡ take n ys ∷ words_in (drop (n + 1) ys) = ap (filter (λ w. not (nat_eq (length w) 0))) (slice_split_first is_space ys 0 at.1) ∙ some_word (take n ys) (slice_split is_space (drop (n + 1) ys)) some in
    let left : length (drop 1 (drop n ys)) ≡ length ys - n - 1 = omega (arith, length-drop 1 (drop n ys), length-drop n ys) in
    let whole : HasFirstWord xs (take n ys) (drop 1 (drop n ys)) = record {
      words = skipped.0 ∙ cut ∙ ap (λ r. take n ys ∷ words_in r) (sym (drop-drop 1 n ys));
      some = some;
      whole = others_before ys;
      within = omega (arith, left, long, at.1, skipped.2);
      apart = λ _. omega (arith, left, long, at.1, skipped.2);
    } in
    let front_is : take n ys ≡ word = ap (λ m. take m ys) (sym at.0) ∙ sym front in
    let back_is : drop 1 (drop n ys) ≡ rest = ap (λ m. drop 1 (drop m ys)) (sym at.0) ∙ ap (drop 1) (sym back) ∙ sym skip in
    subst (λ w. HasFirstWord xs w rest) front_is (subst (λ r. HasFirstWord xs (take n ys) r) back_is whole)

-- a first word that the text ends
pub first_at_end : (xs ys : List ℕ) (start : ℕ) → Some start ≡ position is_other xs → ys ≡ drop start xs → None ≡ position is_space ys → HasFirstWord xs ys []
first_at_end xs ys start h e k =
    let skipped = after_spaces xs ys start h e in
    let n = position_or_len is_space ys in
    let past : length ys ≤ n = no_place n (length ys) k in
    let all : take n ys ≡ ys = take_all n ys past in
    let some : 0 < length ys = omega (arith, skipped.1, place_within is_space ys) in
    record {
      words = skipped.0 ∙ ap (filter (λ w. not (nat_eq (length w) 0))) (slice_split_none is_space ys (λ i d g. fails_before_first is_space ys i d (omega arith))) ∙ some_word ys [] some;
      some = some;
      whole = ap (list_all is_other) (sym all) ∙ others_before ys;
      within = omega (arith, skipped.2);
      apart = λ h. absurd (omega arith);
    }

-- the first word is the only one, where no word follows it
pub only_first : (text word rest : List ℕ) → HasFirstWord text word rest → words_in rest ≡ [] → HasOnlyWord text word
only_first text word rest h none = record {
  words = h.words ∙ ap (λ ws. word ∷ ws) none;
  whole = h.whole;
  within = omega (arith, h.within);
}

pub first_are : (a b : ℕ) (xs ys : List ℕ) → a ∷ xs ≡ b ∷ ys → (a ≡ b) × (xs ≡ ys)
first_are a b xs ys e = (ap (λ l. get_or l 0 0) e, ap (drop 1) e)
