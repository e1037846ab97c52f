-- What a text says as a path or as a line of a source file, and what is said by rows, is said in one way.
use Rattle.std.proofs.Common.{◌≡◌, ℕ, ◌-◌, ◌<◌, Bool, true, false, cond, not, ◌&&◌, nat_eq, List, [], ◌∷◌, ◌++◌, length, Option, Some, None, refl, sym, ap, ◌∙◌, subst, arith, append-nil}
use borrow.Author.Tests.{eqb-true}
use Rattle.std.proofs.lemmas.Bool.{and_parts}
use Rattle.std.proofs.lemmas.Bool.Decides.{nat_tests}
use Rattle.std.proofs.lemmas.List.{take_at, length-append}
use Rattle.std.proofs.lemmas.Slice.Eq.{bytes_eq-Decides}
use Rattle.std.specs.List.{list_all}
use Rattle.std.specs.Option.{option_and_then, option_map}
use Rattle.std.specs.Str.{bytes_eq}
use Rattle.spv_cmd.specs.declared.command.PathPart.{PathPart}
use Rattle.spv_cmd.specs.declared.command.PathPart.TheVariants.{Member, Index}
use Rattle.spv_cmd.specs.declared.command.PathText.{PathText}
use Rattle.spv_cmd.specs.declared.command.PathText.TheVariants.{Name, Id}
use Rattle.spv_cmd.specs.Numbers.{number_of}
use Rattle.spv_cmd.specs.Paths.{is_name, is_name_byte, is_mark, IsPart, AreParts, IsPath, cut_before, cut, without_last, index_of, part_of, parts_of, name_path_of, path_of}
use Rattle.spv_cmd.specs.Places.{IsPlace, is_no_colon, part_behind, parted, place_in, place_of}
use Rattle.spv_cmd.proofs.BoolLemmas.{all_also}
use Rattle.spv_cmd.proofs.PartLemmas.{unmarked, name_unmarked, name_parts, IsMarked, part_marked}
use Rattle.spv_cmd.proofs.PlaceLemmas.{no_colon_in, number_no_colon, one_cut}

-- ---- what is there only where a test passes, and what is made of a value

pub when : {A : Type 0} (b : Bool) (x : Option A) (y : A) → cond b x None ≡ Some y → (b ≡ true) × (x ≡ Some y)
when true x y h = (refl, h)
when false x y h = absurd (cc)

pub made_of : {A B : Type 0} (make : A → B) (x : Option A) (y : B) → option_map make x ≡ Some y → (a : A) × (x ≡ Some a) × (y ≡ make a)
made_of make None y h = absurd (cc)
made_of make (Some a) y h = let same : y ≡ make a = cc in (a, refl, same)

-- ---- parts

index_said : (digits : List ℕ) → index_of (digits ++ 93 ∷ []) ≡ number_of digits
index_said digits =
    let text : List ℕ = digits ++ 93 ∷ [] in
    let front : without_last text ≡ digits = take_at digits (93 ∷ []) (length text - 1) (omega (arith, length-append digits (93 ∷ []))) in
    let same : bytes_eq text (without_last text ++ 93 ∷ []) ≡ true = (bytes_eq-Decides text (without_last text ++ 93 ∷ [])).1 (ap (λ l. l ++ 93 ∷ []) (sym front)) in
    ap (λ b. cond b (number_of (without_last text)) None) same ∙ ap number_of front

index_sound : (text : List ℕ) (n : ℕ) → index_of text ≡ Some n → (digits : List ℕ) × (text ≡ digits ++ 93 ∷ []) × (number_of digits ≡ Some n)
index_sound text n h =
    let both = when (bytes_eq text (without_last text ++ 93 ∷ [])) (number_of (without_last text)) n h in
    (without_last text, (bytes_eq-Decides text (without_last text ++ 93 ∷ [])).0 both.0, both.1)

part_said : (part : PathPart) (text : List ℕ) → IsPart part text → part_of text ≡ Some part
part_said (Member name) text h = ap part_of h.0 ∙ ap (λ b. cond b (Some (Member name)) None) h.1
part_said (Index n) text h = ap part_of h.1 ∙ ap (option_map Index) (index_said h.0 ∙ h.2)

part_sound : (text : List ℕ) (part : PathPart) → part_of text ≡ Some part → IsPart part text
part_sound [] part h = absurd (cc)
part_sound (b ∷ text) part h = by_point (nat_eq b 46) refl h
  where
    by_bracket : (q : Bool) → nat_eq b 91 ≡ q → cond q (option_map Index (index_of text)) None ≡ Some part → IsPart part (b ∷ text)
    by_bracket false e k = absurd (cc)
    by_bracket true e k =
        let made = made_of Index (index_of text) part k in
        let read = index_sound text made.0 made.1 in
        subst (λ p. IsPart p (b ∷ text)) (sym made.2) (read.0, ap (λ c. c ∷ text) (eqb-true b 91 e) ∙ ap (λ t. 91 ∷ t) read.1, read.2)

    by_point : (q : Bool) → nat_eq b 46 ≡ q → cond q (cond (is_name text) (Some (Member text)) None) (cond (nat_eq b 91) (option_map Index (index_of text)) None) ≡ Some part → IsPart part (b ∷ text)
    by_point true e k =
        let named = when (is_name text) (Some (Member text)) part k in
        let same : Member text ≡ part = let s = named.1 in cc in
        subst (λ p. IsPart p (b ∷ text)) same (ap (λ c. c ∷ text) (eqb-true b 46 e), named.0)
    by_point false e k = by_bracket (nat_eq b 91) refl k

-- ---- cuts

cut_mark : (b : ℕ) (front : List ℕ) (parts : List (List ℕ)) → is_mark b ≡ true → cut_before b (front, parts) ≡ ([], (b ∷ front) ∷ parts)
cut_mark b front parts h = ap (λ q. cond q ([], (b ∷ front) ∷ parts) (b ∷ front, parts)) h

cut_plain : (b : ℕ) (front : List ℕ) (parts : List (List ℕ)) → unmarked b ≡ true → cut_before b (front, parts) ≡ (b ∷ front, parts)
cut_plain b front parts h = by (is_mark b) refl h
  where
    by : (q : Bool) → is_mark b ≡ q → not q ≡ true → cut_before b (front, parts) ≡ (b ∷ front, parts)
    by true e k = absurd (cc)
    by false e k = ap (λ q. cond q ([], (b ∷ front) ∷ parts) (b ∷ front, parts)) e

cut_unmarked : (front rest : List ℕ) → list_all unmarked front ≡ true → cut (front ++ rest) ≡ (front ++ (cut rest).0, (cut rest).1)
cut_unmarked [] rest h = refl
cut_unmarked (b ∷ front) rest h =
    let both = and_parts (unmarked b) (list_all unmarked front) h in
    ap (cut_before b) (cut_unmarked front rest both.1) ∙ cut_plain b (front ++ (cut rest).0) (cut rest).1 both.0

parts_said : (parts : List PathPart) (text : List ℕ) → AreParts parts text → ((cut text).0 ≡ []) × (parts_of (cut text).1 ≡ Some parts)
unfolding IsMarked
parts_said [] text h = (ap (λ t. (cut t).0) h, ap (λ t. parts_of (cut t).1) h)
parts_said (part ∷ parts) text h =
    let marked = part_marked part h.0 h.3 in
    let b = marked.0 in
    let tail = marked.1 in
    let later = parts_said parts h.1 h.4 in
    let whole : text ≡ b ∷ (tail ++ h.1) = h.2 ∙ ap (λ front. front ++ h.1) marked.2 in
    let tails : tail ++ (cut h.1).0 ≡ tail = ap (λ l. tail ++ l) later.0 ∙ append-nil tail in
    let is : cut text ≡ ([], (b ∷ tail) ∷ (cut h.1).1)
    = ap cut whole
    ∙ ap (cut_before b) (cut_unmarked tail h.1 marked.4)
    ∙ cut_mark b (tail ++ (cut h.1).0) (cut h.1).1 marked.3
    ∙ ap (λ t. ([], (b ∷ t) ∷ (cut h.1).1)) tails in
    let here : part_of (b ∷ tail) ≡ Some part = part_said part (b ∷ tail) (subst (IsPart part) marked.2 h.3) in
    (ap (λ c. c.0) is, ap (λ c. parts_of c.1) is ∙ ap (λ (p : Option PathPart). option_and_then (λ q. option_map (λ ps. q ∷ ps) (parts_of (cut h.1).1)) p) here ∙ ap (option_map (λ ps. part ∷ ps)) later.1)

abbrev joined : List (List ℕ) → List ℕ
joined [] = []
joined (text ∷ texts) = text ++ joined texts

parts_sound : (texts : List (List ℕ)) (parts : List PathPart) → parts_of texts ≡ Some parts → AreParts parts (joined texts)
parts_sound [] parts h = let none : [] ≡ parts = cc in subst (λ ps. AreParts ps []) none refl
parts_sound (text ∷ texts) parts h = by (λ ps e. parts_sound texts ps e) (part_of text) refl h
  where
    by : ((ps : List PathPart) → parts_of texts ≡ Some ps → AreParts ps (joined texts)) → (p : Option PathPart) → part_of text ≡ p → option_and_then (λ q. option_map (λ ps. q ∷ ps) (parts_of texts)) p ≡ Some parts → AreParts parts (text ++ joined texts)
    by rest None e k = absurd (cc)
    by rest (Some part) e k =
        let more = made_of (λ ps. part ∷ ps) (parts_of texts) parts k in
        subst (λ ps. AreParts ps (text ++ joined texts)) (sym more.2) (text, joined texts, refl, part_sound text part e, rest more.0 more.1)

cut_whole : (text : List ℕ) → text ≡ (cut text).0 ++ joined (cut text).1
cut_whole [] = refl
cut_whole (b ∷ text) = ap (λ t. b ∷ t) (cut_whole text) ∙ by (is_mark b) refl
  where
    by : (q : Bool) → is_mark b ≡ q → b ∷ ((cut text).0 ++ joined (cut text).1) ≡ (cut_before b (cut text)).0 ++ joined (cut_before b (cut text)).1
    by true e = ap (λ c. c.0 ++ joined c.1) (sym (cut_mark b (cut text).0 (cut text).1 e))
    by false e = ap (λ c. c.0 ++ joined c.1) (sym (cut_plain b (cut text).0 (cut text).1 (ap not e)))

-- ---- paths

name_said : (name text : List ℕ) (parts : List PathPart) → is_name name ≡ true → AreParts parts text → name_path_of (cut (name ++ text)) ≡ Some (Name name parts)
name_said name text parts h hs =
    let bytes = all_also is_name_byte unmarked name_unmarked name (name_parts name h).1 in
    let later = parts_said parts text hs in
    let is : cut (name ++ text) ≡ (name, (cut text).1) = cut_unmarked name text bytes ∙ ap (λ l. (l, (cut text).1)) (ap (λ l. name ++ l) later.0 ∙ append-nil name) in
    ap name_path_of is ∙ ap (λ b. cond b (option_map (λ ps. Name name ps) (parts_of (cut text).1)) None) h ∙ ap (option_map (λ ps. Name name ps)) later.1

name_sound : (text : List ℕ) (path : PathText) → name_path_of (cut text) ≡ Some path → IsPath path text
name_sound text path h =
    let named = when (is_name (cut text).0) (option_map (λ ps. Name (cut text).0 ps) (parts_of (cut text).1)) path h in
    let made = made_of (λ ps. Name (cut text).0 ps) (parts_of (cut text).1) path named.1 in
    subst (λ p. IsPath p text) (sym made.2) (joined (cut text).1, cut_whole text, named.0, parts_sound (cut text).1 made.0 made.1)

pub path_said : (path : PathText) (text : List ℕ) → IsPath path text → path_of text ≡ Some path
path_said (Id n) text h = ap path_of h.1 ∙ ap (option_map Id) h.2
path_said (Name [] parts) text h = let no : false ≡ true = h.2 in absurd (cc)
path_said (Name (b ∷ name) parts) text h =
    let other : nat_eq b 37 ≡ false = not_percent b (name_parts (b ∷ name) h.2).2 in
    ap path_of h.1
    ∙ ap (λ q. cond q (option_map Id (number_of (name ++ h.0))) (name_path_of (cut (b ∷ (name ++ h.0))))) other
    ∙ name_said (b ∷ name) h.0 parts h.2 h.3
  where
    not_percent : (b : ℕ) → not (nat_eq b 37) ≡ true → nat_eq b 37 ≡ false
    not_percent b h = grind (arith, nat_tests)

pub path_sound : (path : PathText) (text : List ℕ) → path_of text ≡ Some path → IsPath path text
path_sound path [] h = absurd (cc)
path_sound path (b ∷ text) h = by (nat_eq b 37) refl h
  where
    by : (q : Bool) → nat_eq b 37 ≡ q → cond q (option_map Id (number_of text)) (name_path_of (cut (b ∷ text))) ≡ Some path → IsPath path (b ∷ text)
    by true e k =
        let made = made_of Id (number_of text) path k in
        subst (λ p. IsPath p (b ∷ text)) (sym made.2) (text, ap (λ c. c ∷ text) (eqb-true b 37 e), made.1)
    by false e k = name_sound (b ∷ text) path k

-- ---- lines of source files

abbrev Parts : List ℕ → Option (List ℕ × List ℕ) → Type 0
Parts text None = list_all is_no_colon text ≡ true
Parts text (Some (front, back)) = (text ≡ front ++ 58 ∷ back) × (list_all is_no_colon back ≡ true)

parted_is : (text : List ℕ) → Parts text (parted text)
parted_is [] = refl
parted_is (b ∷ text) = by (parted text) (parted_is text)
  where
    by_colon : (q : Bool) → nat_eq b 58 ≡ q → list_all is_no_colon text ≡ true → Parts (b ∷ text) (cond q (Some ([], text)) None)
    by_colon true e h = (ap (λ c. c ∷ text) (eqb-true b 58 e), h)
    by_colon false e h = ap (λ q. not q && list_all is_no_colon text) e ∙ h

    by : (p : Option (List ℕ × List ℕ)) → Parts text p → Parts (b ∷ text) (part_behind b text p)
    by None h = by_colon (nat_eq b 58) refl h
    by (Some (front, back)) h = (ap (λ t. b ∷ t) h.0, h.1)

place_said_by : (place : Option (List ℕ) × ℕ) (text : List ℕ) (p : Option (List ℕ × List ℕ)) → Parts text p → IsPlace place text → place_in text p ≡ Some place
place_said_by (None, line) text None h k = ap (option_map (λ l. (None, l))) k
place_said_by (None, line) text (Some (front, back)) h k = absurd (no_colon_in front back (ap (list_all is_no_colon) (sym h.0) ∙ number_no_colon text line k))
place_said_by (Some file, line) text None h k = absurd (no_colon_in file k.0 (ap (list_all is_no_colon) (sym k.1) ∙ h))
place_said_by (Some file, line) text (Some (front, back)) h k =
    let same = one_cut front file back k.0 (sym h.0 ∙ k.1) h.1 (number_no_colon k.0 line k.3) in
    let some : nat_eq (length front) 0 ≡ false = some_by (length front) (omega (arith, k.2, ap length same.0)) in
    ap (λ q. cond q None (option_map (λ l. (Some front, l)) (number_of back))) some
    ∙ ap (option_map (λ l. (Some front, l))) (ap number_of same.1 ∙ k.3)
    ∙ ap (λ f. Some (Some f, line)) same.0
  where
    some_by : (n : ℕ) → 0 < n → nat_eq n 0 ≡ false
    some_by n h = grind (arith, nat_tests)

pub place_said : (place : Option (List ℕ) × ℕ) (text : List ℕ) → IsPlace place text → place_of text ≡ Some place
place_said place text h = place_said_by place text (parted text) (parted_is text) h

place_sound_by : (place : Option (List ℕ) × ℕ) (text : List ℕ) (p : Option (List ℕ × List ℕ)) → Parts text p → place_in text p ≡ Some place → IsPlace place text
place_sound_by place text None h k =
    let made = made_of (λ l. (None, l)) (number_of text) place k in
    subst (λ q. IsPlace q text) (sym made.2) made.1
place_sound_by place text (Some (front, back)) h k = by (nat_eq (length front) 0) refl k
  where
    some_by : (n : ℕ) → nat_eq n 0 ≡ false → 0 < n
    some_by n h = grind (arith, nat_tests)

    by : (q : Bool) → nat_eq (length front) 0 ≡ q → cond q None (option_map (λ l. (Some front, l)) (number_of back)) ≡ Some place → IsPlace place text
    by true e is = absurd (cc)
    by false e is =
        let made = made_of (λ l. (Some front, l)) (number_of back) place is in
        subst (λ p. IsPlace p text) (sym made.2) (back, h.0, some_by (length front) e, made.1)

pub place_sound : (place : Option (List ℕ) × ℕ) (text : List ℕ) → place_of text ≡ Some place → IsPlace place text
place_sound place text h = place_sound_by place text (parted text) (parted_is text) h
