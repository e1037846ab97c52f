-- The lines of bytes, put together again, are the bytes.
use Rattle.std.proofs.Common.{◌≡◌, ℕ, Bool, true, false, cond, ◌||◌, nat_eq, List, [], ◌∷◌, ◌++◌, refl, sym, ap, ◌∙◌, append_assoc, append-nil}
use Rattle.std.specs.List.{list_any, AllByRecursion}
use borrow.Author.Tests.{eqb-true}
use Rattle.std.proofs.lemmas.List.Folds.{list_any-append}
use Rattle.spv_loop.specs.Lines.{complete_from, rest_from, ended_by, line_after, ended}

abbrev HasLf : List ℕ → Bool
HasLf line = list_any (λ b. nat_eq b 10) line

ended-append : (xs ys : List (List ℕ)) → ended (xs ++ ys) ≡ ended xs ++ ended ys
ended-append [] ys = refl
ended-append (x ∷ xs) ys = ap (λ l. (x ++ 10 ∷ []) ++ l) (ended-append xs ys) ∙ sym (append_assoc (x ++ 10 ∷ []) (ended xs) (ended ys))

-- one byte: what it ends and what goes on are the line with the byte
one : (line : List ℕ) (b : ℕ) → ended (ended_by line b) ++ line_after line b ≡ line ++ b ∷ []
one line b =
    let P : Bool → Type 0 = λ q. nat_eq b 10 ≡ q → ended (cond q (line ∷ []) []) ++ cond q [] (line ++ b ∷ []) ≡ line ++ b ∷ [] in
    let cases : (q : Bool) → P q = λ q. elim q as P [
      | true ↦ (λ h. let e : 10 ≡ b = sym (eqb-true b 10 h) in append-nil ((line ++ 10 ∷ []) ++ []) ∙ append-nil (line ++ 10 ∷ []) ∙ ap (λ n. line ++ n ∷ []) e)
      | false ↦ (λ h. refl)
    ] in
    cases (nat_eq b 10) refl

pub whole_from : (line bytes : List ℕ) → ended (complete_from line bytes) ++ rest_from line bytes ≡ line ++ bytes
whole_from line [] = sym (append-nil line)
whole_from line (b ∷ bs) =
    ap (λ l. l ++ rest_from (line_after line b) bs) (ended-append (ended_by line b) (complete_from (line_after line b) bs))
    ∙ append_assoc (ended (ended_by line b)) _ _
    ∙ ap (λ l. ended (ended_by line b) ++ l) (whole_from (line_after line b) bs)
    ∙ sym (append_assoc (ended (ended_by line b)) (line_after line b) bs)
    ∙ ap (λ l. l ++ bs) (one line b)
    ∙ append_assoc line (b ∷ []) bs

after_has_none : (line : List ℕ) (b : ℕ) → HasLf line ≡ false → HasLf (line_after line b) ≡ false
after_has_none line b h =
    let P : Bool → Type 0 = λ q. nat_eq b 10 ≡ q → HasLf (cond q [] (line ++ b ∷ [])) ≡ false in
    let cases : (q : Bool) → P q = λ q. elim q as P [
      | true ↦ (λ k. refl)
      | false ↦ (λ k. list_any-append (λ x. nat_eq x 10) line (b ∷ []) ∙ ap (λ x. x || (nat_eq b 10 || false)) h ∙ ap (λ x. x || false) k)
    ] in
    cases (nat_eq b 10) refl

pub rest_has_none : (line bytes : List ℕ) → HasLf line ≡ false → HasLf (rest_from line bytes) ≡ false
rest_has_none line [] h = h
rest_has_none line (b ∷ bs) h = rest_has_none (line_after line b) bs (after_has_none line b h)

all_joined : (P : List ℕ → Type 0) (xs ys : List (List ℕ)) → AllByRecursion P xs → AllByRecursion P ys → AllByRecursion P (xs ++ ys)
all_joined P [] ys a b = b
all_joined P (x ∷ xs) ys a b = (a.0, all_joined P xs ys a.1 b)

ended_has_none : (line : List ℕ) (b : ℕ) → HasLf line ≡ false → AllByRecursion (λ l. HasLf l ≡ false) (ended_by line b)
ended_has_none line b h = elim (nat_eq b 10) as (λ q. AllByRecursion (λ l. HasLf l ≡ false) (cond q (line ∷ []) [])) [ true ↦ (h, tt) | false ↦ tt ]

pub lines_have_none : (line bytes : List ℕ) → HasLf line ≡ false → AllByRecursion (λ l. HasLf l ≡ false) (complete_from line bytes)
lines_have_none line [] h = tt
lines_have_none line (b ∷ bs) h = all_joined _ (ended_by line b) _ (ended_has_none line b h) (lines_have_none (line_after line b) bs (after_has_none line b h))
