-- The lines of bytes that come in two parts.
use Rattle.std.proofs.Common.{◌≡◌, ℕ, List, [], ◌∷◌, ◌++◌, refl, sym, ap, ◌∙◌, append_assoc}
use Rattle.spv_loop.specs.Lines.{complete_from, rest_from, ended_by, line_after, last_line}

pub complete_from-append : (line xs ys : List ℕ) → complete_from line (xs ++ ys) ≡ complete_from line xs ++ complete_from (rest_from line xs) ys
complete_from-append line [] ys = refl
complete_from-append line (x ∷ xs) ys =
    ap (λ l. ended_by line x ++ l) (complete_from-append (line_after line x) xs ys) ∙ sym (append_assoc (ended_by line x) _ _)

pub rest_from-append : (line xs ys : List ℕ) → rest_from line (xs ++ ys) ≡ rest_from (rest_from line xs) ys
rest_from-append line [] ys = refl
rest_from-append line (x ∷ xs) ys = rest_from-append (line_after line x) xs ys

-- all lines, where `line` has come of the first
abbrev pub lines_from : List ℕ → List ℕ → List (List ℕ)
lines_from line bytes = complete_from line bytes ++ last_line (rest_from line bytes)

pub lines_from-append : (line xs ys : List ℕ) → lines_from line (xs ++ ys) ≡ complete_from line xs ++ lines_from (rest_from line xs) ys
lines_from-append line xs ys =
    ap (λ l. l ++ last_line (rest_from line (xs ++ ys))) (complete_from-append line xs ys)
    ∙ ap (λ l. (complete_from line xs ++ complete_from (rest_from line xs) ys) ++ last_line l) (rest_from-append line xs ys)
    ∙ append_assoc (complete_from line xs) _ _
