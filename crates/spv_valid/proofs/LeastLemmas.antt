-- The least of some breaches, and what results tell of them.
use Rattle.std.proofs.Common.{◌≡◌, ◌<◌, ◌≤◌, inl, inr, ⊎_elim, ℕ, true, false, cond, List, [], ◌∷◌, ◌++◌, length, min, Option, Some, None, Result, Ok, Err, refl, ap, ◌∙◌, arith}
use Rattle.std.proofs.lemmas.Bool.{cases_Bool, cases_lt, ltb-true, ltb-false}
use Rattle.std.proofs.lemmas.List.{append-nil}
use Rattle.std.proofs.lemmas.List.Elements.{All-append, All-contains, All-cons, All-nil, Contains-append_left, Contains-append_right}
use Rattle.std.specs.Prelude.{nat_lt}
use Rattle.std.specs.List.{All}
use Rattle.std.specs.Option.{option_map}
use Rattle.std.specs.Result.{IsOk}
use Rattle.spv_base.specs.declared.causes.Refusal.{Refusal}
use Rattle.spv_types.specs.Build.{unless_refused}
use Rattle.spv_base.specs.Lowest.{lower, lowest}
use Rattle.spv_base.specs.Answers.{after}
use Rattle.spv_valid.specs.Breaches.{IsBefore, IsLeast, at_words, first_with, refused_in}
use Rattle.spv_valid.proofs.OrderLemmas.{Behind, Led}

-- a result has no breach, or refuses the least
abbrev pub Tells : {T : Type 0} → Result T Refusal → List Refusal → Type 0
Tells (Ok x) rs = rs ≡ []
Tells (Err r) rs = IsLeast rs r

-- the least of some breaches, where there is one
abbrev pub IsLeastOf : Option Refusal → List Refusal → Type 0
IsLeastOf None rs = rs ≡ []
IsLeastOf (Some r) rs = IsLeast rs r

none_least : (r : Refusal) → IsLeast [] r → ⊥
none_least r h = let lt : h.among.0 < 0 = h.among.1 in omega arith

-- ---- lists in order

all_behind : (r : Refusal) (rs : List Refusal) → Behind r rs → All (IsBefore r) rs
all_behind r [] behind = All-nil (IsBefore r)
all_behind r (s ∷ ss) (first, rest) = All-cons (IsBefore r) s ss first (all_behind r ss rest)

before_itself : (r : Refusal) → IsBefore r r
before_itself r = let le : r.code ≤ r.code = omega arith in inr (refl, le)

first_least : (r : Refusal) (rs : List Refusal) → Behind r rs → IsLeast (r ∷ rs) r
first_least r rs behind = let lt : 0 < length (r ∷ rs) = omega arith in record {
  among = (0, lt, refl);
  least = All-cons (IsBefore r) r rs (before_itself r) (all_behind r rs behind);
}

pub tells_led : {T : Type 0} (x : T) (rs : List Refusal) → Led rs → Tells (unless_refused x rs) rs
tells_led x [] led = refl
tells_led x (r ∷ rs) led = first_least r rs led

pub tells_refused : {T : Type 0} (due : Result T Refusal) → Tells due (refused_in due)
tells_refused (Ok x) = refl
tells_refused (Err r) = first_least r [] tt

-- ---- joined lists

before_more : (r s t : Refusal) → IsBefore r s → IsBefore s t → IsBefore r t
before_more r s t (inl a) (inl b) = let lt : r.word < t.word = omega arith in inl lt
before_more r s t (inl a) (inr b) = let same : s.word ≡ t.word = b.0 in let lt : r.word < t.word = omega arith in inl lt
before_more r s t (inr a) (inl b) = let same : r.word ≡ s.word = a.0 in let lt : r.word < t.word = omega arith in inl lt
before_more r s t (inr a) (inr b) = let le : r.code ≤ t.code = omega (arith, a.1, b.1) in inr (a.0 ∙ b.0, le)

all_more : (r s : Refusal) (rs : List Refusal) → IsBefore r s → All (IsBefore s) rs → All (IsBefore r) rs
all_more r s rs before all = λ k d lt. before_more r s _ before (all k d lt)

-- the earlier one of two breaches
abbrev pub earlier_of : Refusal → Refusal → Refusal
earlier_of r s = cond (nat_lt s.word r.word) s r

abbrev pub earlier : Option Refusal → Option Refusal → Option Refusal
earlier None b = b
earlier (Some r) None = Some r
earlier (Some r) (Some s) = Some (earlier_of r s)

two_least : (r s : Refusal) (xs ys : List Refusal) → IsLeast xs r → IsLeast ys s → r.code ≤ s.code → IsLeast (xs ++ ys) (earlier_of r s)
two_least r s xs ys one other codes = ⊎_elim
    (λ (yes : nat_lt s.word r.word ≡ true).
    let lt : s.word < r.word = ltb-true s.word r.word yes in
    rw yes (record { among = Contains-append_right xs ys s other.among; least = All-append (IsBefore s) xs ys (all_more s r xs (inl lt) one.least) other.least }))
    (λ (no : nat_lt s.word r.word ≡ false).
    let le : r.word ≤ s.word = ltb-false s.word r.word no in
    let before : IsBefore r s = ⊎_elim (λ (lt : r.word < s.word). inl lt) (λ (ge : s.word ≤ r.word). let same : r.word ≡ s.word = omega arith in inr (same, codes)) (cases_lt r.word s.word) in
    rw no (record { among = Contains-append_left xs ys r one.among; least = All-append (IsBefore r) xs ys one.least (all_more r s ys before other.least) }))
    (cases_Bool (nat_lt s.word r.word))

-- the codes of the first list are no greater than those of the second
pub joined_least : (a b : Option Refusal) (xs ys : List Refusal) → IsLeastOf a xs → IsLeastOf b ys → ((r s : Refusal) → a ≡ Some r → b ≡ Some s → r.code ≤ s.code)
    → IsLeastOf (earlier a b) (xs ++ ys)
joined_least None None xs ys one other codes = rw (one, other) refl
joined_least None (Some s) xs ys one other codes = rw one other
joined_least (Some r) None xs ys one other codes = rw (other, append-nil) one
joined_least (Some r) (Some s) xs ys one other codes = two_least r s xs ys one other (codes r s refl refl)

-- ---- words

abbrev with_code : ℕ → ℕ → Refusal
with_code code word = record { code = code; word = word }

lower_word : (code w v : ℕ) → with_code code (min w v) ≡ earlier_of (with_code code w) (with_code code v)
lower_word code w v = ⊎_elim
    (λ (yes : nat_lt v w ≡ true). let lt : v < w = ltb-true v w yes in let same : min w v ≡ v = omega arith in rw (yes, same) refl)
    (λ (no : nat_lt v w ≡ false). let le : w ≤ v = ltb-false v w no in let same : min w v ≡ w = omega arith in rw (no, same) refl)
    (cases_Bool (nat_lt v w))

pub lowest_least : (code : ℕ) (words : List ℕ) → IsLeastOf (option_map (with_code code) (lowest words)) (at_words code words)
lowest_least code [] = refl
lowest_least code (w ∷ ws) = by_rest (lowest ws) (at_words code ws) (lowest_least code ws)
  where
    by_rest : (o : Option ℕ) (rest : List Refusal) → IsLeastOf (option_map (with_code code) o) rest → IsLeastOf (option_map (with_code code) (lower (Some w) o)) (with_code code w ∷ rest)
    by_rest None rest least = rw least (first_least (with_code code w) [] tt)
    by_rest (Some v) rest least =
        let codes : code ≤ code = omega arith in
        let joined = two_least (with_code code w) (with_code code v) (with_code code w ∷ []) rest (first_least (with_code code w) [] tt) least codes in
        rw (lower_word code w v) joined

-- ---- one pass and those after it

pub tells_after : {T U : Type 0} (due : Result T Refusal) (next : T → Result U Refusal) (rs : List Refusal) (later : List (List Refusal))
    → Tells due rs → ((x : T) → due ≡ Ok x → Tells (next x) (first_with later)) → Tells (after due next) (first_with (rs ∷ later))
tells_after (Ok x) next rs later none rest = rw none (rest x refl)
tells_after (Err r) next [] later least rest = absurd (none_least r least)
tells_after (Err r) next (s ∷ ss) later least rest = least

-- ---- what a result that tells says

same_refusal : (r s : Refusal) → IsBefore r s → IsBefore s r → r ≡ s
same_refusal r s one other =
    let words : r.word ≡ s.word = omega (arith, one, other) in
    let codes : r.code ≡ s.code = omega (arith, one, other) in
    let same : with_code r.code r.word ≡ with_code s.code s.word = rw (words, codes) refl in
    same

pub refused_least : {T : Type 0} (due : Result T Refusal) (rs : List Refusal) (r : Refusal) → Tells due rs → due ≡ Err r → IsLeast rs r
refused_least due rs r tells is = rw is at tells

pub least_refused : {T : Type 0} (due : Result T Refusal) (rs : List Refusal) (r : Refusal) → Tells due rs → IsLeast rs r → due ≡ Err r
least_refused (Ok x) rs r none least = absurd (none_least r (rw none at least))
least_refused (Err s) rs r least other = ap Err (same_refusal s r (All-contains (IsBefore s) rs r least.least other.among) (All-contains (IsBefore r) rs s other.least least.among))

pub accepted_none : {T : Type 0} (due : Result T Refusal) (rs : List Refusal) → Tells due rs → IsOk due → rs ≡ []
accepted_none (Ok x) rs none ok = none
accepted_none (Err r) rs least ok = absurd (cc)

pub none_accepted : {T : Type 0} (due : Result T Refusal) (rs : List Refusal) → Tells due rs → rs ≡ [] → IsOk due
none_accepted (Ok x) rs none is = refl
none_accepted (Err r) rs least is = absurd (none_least r (rw is at least))
