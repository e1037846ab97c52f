-- The table of keywords has each of them, and no two are spelled alike.
use Rattle.std.proofs.Common.{◌≡◌, ◌≢◌, ℕ, ◌<◌, ◌≤◌, Bool, true, false, cond, not, ◌&&◌, List, [], ◌∷◌, length, map, Option, Some, None, refl, sym, ap, ◌∙◌, arith}
use Rattle.std.proofs.lemmas.Bool.{and_parts}
use Rattle.std.proofs.lemmas.Slice.Eq.{bytes_eq-Decides}
use Rattle.std.specs.List.{list_all}
use Rattle.std.specs.Str.{bytes_eq}
use Rattle.spv_cmd.specs.declared.keywords.Keyword.{Keyword}
use Rattle.spv_cmd.specs.declared.keywords.TheConstants.{ROWS}
use Rattle.spv_line.specs.Words.{is_other}
use Rattle.spv_cmd.specs.Answers.{Row, row_with}
use Rattle.spv_cmd.specs.Grammar.{spelling, is_built}

unfoldable pub rows : List Row
rows = map (λ r. (r.0, r.1.now, r.2)) ROWS

abbrev same : Bool → Bool → Bool
same true b = b
same false b = not b

-- a row says what is so
abbrev is_right : Row → Bool
is_right r = bytes_eq r.1 (spelling r.0) && same r.2 (is_built r.1)

all_right : list_all is_right rows ≡ true
unfolding rows
all_right = refl

same_is : (a b : Bool) → same a b ≡ true → a ≡ b
same_is true b h = sym h
same_is false true h = absurd (cc)
same_is false false h = refl

-- the first row of a word is written so, and says what is so
found_by : (word : List ℕ) (rs : List Row) (r : Row) → list_all is_right rs ≡ true → row_with word rs ≡ Some r → (bytes_eq r.1 word ≡ true) × (is_right r ≡ true)
found_by word [] r all h = absurd (cc)
found_by word (q ∷ rs) r all h = by (λ e. found_by word rs r both.1 e) (bytes_eq q.1 word) refl h
  where
    both : (is_right q ≡ true) × (list_all is_right rs ≡ true)
    both = and_parts (is_right q) (list_all is_right rs) all

    by : (row_with word rs ≡ Some r → (bytes_eq r.1 word ≡ true) × (is_right r ≡ true)) → (b : Bool) → bytes_eq q.1 word ≡ b → cond b (Some q) (row_with word rs) ≡ Some r → (bytes_eq r.1 word ≡ true) × (is_right r ≡ true)
    by rest true e is = let this : q ≡ r = cc in (ap (λ s. bytes_eq s.1 word) (sym this) ∙ e, ap is_right (sym this) ∙ both.0)
    by rest false e is = rest is

pub row_found : (word : List ℕ) (r : Row) → row_with word rows ≡ Some r → (word ≡ spelling r.0) × (r.2 ≡ is_built word)
row_found word r h =
    let this = found_by word rows r all_right h in
    let right = and_parts (bytes_eq r.1 (spelling r.0)) (same r.2 (is_built r.1)) this.1 in
    let written : r.1 ≡ word = (bytes_eq-Decides r.1 word).0 this.0 in
    (sym written ∙ (bytes_eq-Decides r.1 (spelling r.0)).0 right.0, same_is r.2 (is_built r.1) right.1 ∙ ap is_built written)

-- each keyword has a row, which is its own
own_row : (k : Keyword) → row_with (spelling k) rows ≡ Some (k, spelling k, is_built (spelling k))
unfolding rows
own_row = grind arith

none_some : {A : Type 0} (x : A) → ¬ (◌≡◌ {A = Option A} None (Some x))
none_some x h = absurd (cc)

same_some : {A : Type 0} (x y : A) → ◌≡◌ {A = Option A} (Some x) (Some y) → x ≡ y
same_some x y h = cc

abbrev own : Keyword → Row
own k = (k, spelling k, is_built (spelling k))

pub no_row : (word : List ℕ) → row_with word rows ≡ None → (k : Keyword) → word ≢ spelling k
no_row word h k e = none_some (own k) (sym h ∙ ap (λ w. row_with w rows) e ∙ own_row k)

pub one_keyword : (k j : Keyword) → spelling k ≡ spelling j → k ≡ j
one_keyword k j e = ap (λ (r : Row). r.0) (same_some (own k) (own j) (sym (own_row k) ∙ ap (λ w. row_with w rows) e ∙ own_row j))

-- ---- a keyword is one word of at most 9 bytes

pub keyword_whole : (k : Keyword) → list_all is_other (spelling k) ≡ true
keyword_whole = grind arith

pub keyword_some : (k : Keyword) → 0 < length (spelling k)
keyword_some = grind arith

pub keyword_short : (k : Keyword) → length (spelling k) ≤ 9
keyword_short = grind arith
