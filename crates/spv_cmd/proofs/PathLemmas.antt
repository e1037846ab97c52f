-- Paths that are read can be written, in no more bytes, and are read again from what is written.
use Rattle.std.proofs.Common.{◌≡◌, ℕ, ◌+◌, ◌<◌, ◌≤◌, drop, get_or, sym, true, decimal, List, [], ◌∷◌, ◌++◌, length, refl, ap, ◌∙◌, arith}
use Rattle.std.proofs.lemmas.Bool.{and_parts, and_from, leb-true, le-leb}
use Rattle.std.specs.List.{list_all}
use Rattle.std.proofs.lemmas.List.{length-append, append_assoc, append-nil, drop_more, drop_all}
use Rattle.spv_cmd.specs.declared.command.PathPart.{PathPart}
use Rattle.spv_cmd.specs.declared.command.PathPart.TheVariants.{Member, Index}
use Rattle.spv_cmd.specs.declared.command.PathText.{PathText}
use Rattle.spv_cmd.specs.declared.command.PathText.TheVariants.{Name, Id}
use Rattle.spv_cmd.specs.Paths.{IsPart, AreParts, IsPath, is_name, is_part, is_path, part_text, parts_text, path_text}
use Rattle.spv_cmd.proofs.NumberLemmas.{number_parts, number_decimal, decimal_short}

part_form : (part : PathPart) (text : List ℕ) → IsPart part text → (is_part part ≡ true) × (length (part_text part) ≤ length text)
part_form (Member name) text h = (h.1, omega (arith, ap length h.0))
part_form (Index n) text h =
    let short = decimal_short h.0 n h.2 in
    (le-leb n 4294967295 (number_parts h.0 n h.2).3, omega (arith, short, ap length h.1, length-append (decimal n) (93 ∷ []), length-append h.0 (93 ∷ [])))

parts_form : (parts : List PathPart) (text : List ℕ) → AreParts parts text → (list_all is_part parts ≡ true) × (length (parts_text parts) ≤ length text)
parts_form [] text h = (refl, omega arith)
parts_form (part ∷ parts) text h =
    let one = part_form part h.0 h.3 in
    let more = parts_form parts h.1 h.4 in
    (and_from (is_part part) (list_all is_part parts) one.0 more.0, omega (arith, one.1, more.1, ap length h.2, length-append h.0 h.1, length-append (part_text part) (parts_text parts)))

pub path_form : (p : PathText) (text : List ℕ) → IsPath p text → (is_path p ≡ true) × (length (path_text p) ≤ length text)
path_form (Name name parts) text h =
    let more = parts_form parts h.0 h.3 in
    (and_from (is_name name) (list_all is_part parts) h.2 more.0, omega (arith, more.1, ap length h.1, length-append name h.0, length-append name (parts_text parts)))
path_form (Id n) text h = (le-leb n 4294967295 (number_parts h.0 n h.2).3, omega (arith, decimal_short h.0 n h.2, ap length h.1))

part_again : (part : PathPart) → is_part part ≡ true → IsPart part (part_text part)
part_again (Member name) h = (refl, h)
part_again (Index n) h = (decimal n, refl, number_decimal n (leb-true n 4294967295 h))

parts_again : (parts : List PathPart) → list_all is_part parts ≡ true → AreParts parts (parts_text parts)
parts_again [] h = refl
parts_again (part ∷ parts) h =
    let both = and_parts (is_part part) (list_all is_part parts) h in
    (part_text part, parts_text parts, refl, part_again part both.0, parts_again parts both.1)

-- what is written is read as the path
pub path_again : (p : PathText) → is_path p ≡ true → IsPath p (path_text p)
path_again (Name name parts) h =
    let both = and_parts (is_name name) (list_all is_part parts) h in
    (parts_text parts, refl, both.0, parts_again parts both.1)
path_again (Id n) h = (decimal n, refl, number_decimal n (leb-true n 4294967295 h))

-- one part more is written
pub parts_more : (before text more : List ℕ) (parts : List PathPart) (i : ℕ) (part : PathPart) → i < length parts → part ≡ get_or parts i part → text ++ parts_text (drop i parts) ≡ before → more ≡ text ++ part_text part → more ++ parts_text (drop (i + 1) parts) ≡ before
parts_more before text more parts i part l is so e =
    let next : drop i parts ≡ part ∷ drop (i + 1) parts = drop_more parts i part l ∙ ap (λ p. p ∷ drop (i + 1) parts) (sym is) in
    ap (λ m. m ++ parts_text (drop (i + 1) parts)) e
    ∙ append_assoc text (part_text part) (parts_text (drop (i + 1) parts))
    ∙ ap (λ ps. text ++ parts_text ps) (sym next)
    ∙ so

pub parts_done : (before text : List ℕ) (parts : List PathPart) (i : ℕ) → length parts ≤ i → text ++ parts_text (drop i parts) ≡ before → text ≡ before
parts_done before text parts i l so = sym (append-nil text) ∙ ap (λ ps. text ++ parts_text ps) (sym (drop_all i parts l)) ∙ so
