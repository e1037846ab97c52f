-- What is cut from the text of a path is its parts.
use Rattle.std.proofs.Common.{◌≡◌, ◌≢◌, ℕ, suc, ◌+◌, ◌<◌, ◌⊎◌, inl, inr, Bool, true, false, not, cond, nat_eq, List, [], ◌∷◌, ◌++◌, length, take, drop, Some, None, refl, sym, ap, ◌∙◌, subst, arith, append_assoc}
use Rattle.std.proofs.lemmas.Bool.{and_parts, and_from}
use Rattle.std.specs.Prelude.{slice_index}
use Rattle.std.specs.List.{list_all, position_or_len}
use Rattle.std.proofs.lemmas.List.{take_at, drop_at, same_from_push, take-append-drop, length-append}
use Rattle.std.proofs.lemmas.List.Folds.{list_all-append}
use Rattle.std.proofs.lemmas.Bool.Decides.{nat_tests}
use Rattle.spv_cmd.specs.declared.command.PathPart.{PathPart}
use Rattle.spv_cmd.specs.declared.command.PathPart.TheVariants.{Member, Index}
use Rattle.spv_cmd.specs.declared.command.PathText.{PathText}
use Rattle.spv_cmd.specs.declared.command.PathText.TheVariants.{Name, Id}
use Rattle.spv_cmd.specs.Numbers.{number_of}
use Rattle.spv_cmd.specs.Paths.{is_name_byte, is_name, is_mark, IsPart, AreParts, IsPath}
use Rattle.spv_cmd.proofs.BoolLemmas.{neither, all_also}
use Rattle.spv_cmd.proofs.NumberLemmas.{number_parts}
use Rattle.spv_line.proofs.Exports.{first_are}
use Rattle.spv_line.specs.Numbers.{is_digit}

-- ---- bytes that begin no part

abbrev pub unmarked : ℕ → Bool
unmarked b = not (is_mark b)

pub name_unmarked : (b : ℕ) → is_name_byte b ≡ true → unmarked b ≡ true
name_unmarked b h =
    let one = and_parts _ _ h in
    let two = and_parts _ _ one.1 in
    let three = and_parts _ _ two.1 in
    neither (nat_eq b 46) (nat_eq b 91) two.0 three.0

digit_unmarked : (b : ℕ) → is_digit b ≡ true → unmarked b ≡ true
digit_unmarked b h = grind (arith, nat_tests)

-- what the test of a name says
pub name_parts : (name : List ℕ) → is_name name ≡ true → (not (nat_eq (length name) 0) ≡ true) × (list_all is_name_byte name ≡ true) × (not (nat_eq (slice_index name 0) 37) ≡ true)
name_parts name h =
    let one = and_parts _ _ h in
    let two = and_parts _ _ one.1 in
    (one.0, two.0, two.1)

-- ---- where a part ends

-- nothing, or a text that begins with a part
BeginsPart : List ℕ → Type 0
BeginsPart text = (text ≡ []) ⊎ ((b : ℕ) × (rest : List ℕ) × (text ≡ b ∷ rest) × (is_mark b ≡ true))

mark_place : (front rest : List ℕ) → list_all unmarked front ≡ true → BeginsPart rest → position_or_len is_mark (front ++ rest) ≡ length front
unfolding BeginsPart
mark_place [] rest h begins = elim begins [
  | inl e ↦ ap (position_or_len is_mark) e
  | inr t ↦ ap (position_or_len is_mark) t.2 ∙ ap (λ b. cond (not b) (1 + position_or_len is_mark t.1) 0) t.3
]
mark_place (x ∷ front) rest h begins =
    let both = and_parts (unmarked x) (list_all unmarked front) h in
    let n = mark_place front rest both.1 begins in
    let more : 1 + position_or_len is_mark (front ++ rest) ≡ suc (length front) = omega (arith, n) in
    ap (λ b. cond b (1 + position_or_len is_mark (front ++ rest)) 0) both.0 ∙ more

-- a part is a mark, and bytes that begin no part
unfoldable pub IsMarked : List ℕ → Type 0
IsMarked text = (b : ℕ) × (tail : List ℕ) × (text ≡ b ∷ tail) × (is_mark b ≡ true) × (list_all unmarked tail ≡ true)

pub part_marked : (part : PathPart) (text : List ℕ) → IsPart part text → IsMarked text
unfolding IsMarked
part_marked (Member name) text h = (46, name, h.0, refl, all_also is_name_byte unmarked name_unmarked name (name_parts name h.1).1)
part_marked (Index n) text h =
    let digits = all_also is_digit unmarked digit_unmarked h.0 (number_parts h.0 n h.2).1 in
    (91, h.0 ++ (93 ∷ []), h.1, refl, list_all-append unmarked h.0 (93 ∷ []) ∙ and_from (list_all unmarked h.0) true digits refl)

parts_begin : (parts : List PathPart) (text : List ℕ) → AreParts parts text → BeginsPart text
unfolding BeginsPart IsMarked
parts_begin [] text h = inl h
parts_begin (part ∷ parts) text h =
    let marked = part_marked part h.0 h.3 in
    inr (marked.0, marked.1 ++ h.1, h.2 ∙ ap (λ front. front ++ h.1) marked.2, marked.3)

-- ---- the first part of a path

-- what a cut at the first mark behind a part's own gives
pub first_part_is : (part : PathPart) (parts : List PathPart) (text first rest : List ℕ) → text ≡ first ++ rest → IsPart part first → AreParts parts rest → (n : ℕ) → n ≡ 1 + position_or_len is_mark (drop 1 text) → (take n text ≡ first) × (drop n text ≡ rest)
unfolding IsMarked
first_part_is part parts text first rest e h hs n k =
    let marked = part_marked part first h in
    let tail = marked.1 in
    let whole : text ≡ marked.0 ∷ (tail ++ rest) = e ∙ ap (λ front. front ++ rest) marked.2 in
    let place = mark_place tail rest marked.4 (parts_begin parts rest hs) in
    let same : position_or_len is_mark (drop 1 text) ≡ length tail = ap (λ t. position_or_len is_mark (drop 1 t)) whole ∙ place in
    let len : length first ≡ suc (length tail) = ap length marked.2 in
    let at : length first ≡ n = omega (arith, same, len, k) in
    (ap (take n) e ∙ take_at first rest n at, ap (drop n) e ∙ drop_at first rest n at)

-- what a cut at the first mark of a path gives
pub name_is : (name rest text : List ℕ) (parts : List PathPart) → text ≡ name ++ rest → is_name name ≡ true → AreParts parts rest → (n : ℕ) → n ≡ position_or_len is_mark text → (take n text ≡ name) × (drop n text ≡ rest)
name_is name rest text parts e h hs n k =
    let bytes = all_also is_name_byte unmarked name_unmarked name (name_parts name h).1 in
    let at : length name ≡ n = sym (k ∙ ap (position_or_len is_mark) e ∙ mark_place name rest bytes (parts_begin parts rest hs)) in
    (ap (take n) e ∙ take_at name rest n at, ap (drop n) e ∙ drop_at name rest n at)

-- ---- texts that are no part

pub no_member : (name : List ℕ) → is_name name ≡ false → (part : PathPart) → ¬ IsPart part (46 ∷ name)
no_member name h (Member other) k = let e = (first_are 46 46 name other k.0).1 in absurd (cc)
no_member name h (Index n) k = absurd (omega (arith, (first_are 46 91 name (k.0 ++ (93 ∷ [])) k.1).0))

pub no_index_empty : (part : PathPart) → ¬ IsPart part (91 ∷ [])
no_index_empty (Member name) k = absurd (omega (arith, (first_are 91 46 [] name k.0).0))
no_index_empty (Index n) k = let e = ap length (first_are 91 91 [] (k.0 ++ (93 ∷ [])) k.1).1 in absurd (omega (arith, length-append k.0 (93 ∷ []), e))

pub no_index_end : (front text : List ℕ) (last : ℕ) → text ≡ front ++ last ∷ [] → last ≢ 93 → (part : PathPart) → ¬ IsPart part (91 ∷ text)
no_index_end front text last e h (Member name) k = absurd (omega (arith, (first_are 91 46 text name k.0).0))
no_index_end front text last e h (Index n) k = absurd (h (same_from_push front k.0 last 93 (sym e ∙ (first_are 91 91 text (k.0 ++ (93 ∷ [])) k.1).1)).1)

pub no_index_number : (digits text : List ℕ) → text ≡ digits ++ 93 ∷ [] → number_of digits ≡ None → (part : PathPart) → ¬ IsPart part (91 ∷ text)
no_index_number digits text e h (Member name) k = absurd (omega (arith, (first_are 91 46 text name k.0).0))
no_index_number digits text e h (Index n) k =
    let same : digits ≡ k.0 = (same_from_push digits k.0 93 93 (sym e ∙ (first_are 91 91 text (k.0 ++ (93 ∷ [])) k.1).1)).0 in
    let none : number_of digits ≡ Some n = ap number_of same ∙ k.2 in
    absurd (cc)

pub index_is : (digits text : List ℕ) (n : ℕ) → text ≡ digits ++ 93 ∷ [] → number_of digits ≡ Some n → IsPart (Index n) (91 ∷ text)
index_is digits text n e h = (digits, ap (λ t. 91 ∷ t) e, h)

pub no_part_empty : (text : List ℕ) → text ≡ [] → (part : PathPart) → ¬ IsPart part text
no_part_empty text e (Member name) k = absurd (cc)
no_part_empty text e (Index n) k = absurd (cc)

pub no_part_other : (text rest : List ℕ) (b : ℕ) → text ≡ b ∷ rest → b ≢ 46 → b ≢ 91 → (part : PathPart) → ¬ IsPart part text
no_part_other text rest b e p q (Member name) k = p (first_are b 46 rest name (sym e ∙ k.0)).0
no_part_other text rest b e p q (Index n) k = q (first_are b 91 rest (k.0 ++ (93 ∷ [])) (sym e ∙ k.1)).0

-- ---- paths

-- a name doesn't begin with `%`
pub name_begins : (name rest digits : List ℕ) → is_name name ≡ true → ¬ (37 ∷ digits ≡ name ++ rest)
name_begins [] rest digits h e = absurd (cc)
name_begins (b ∷ name) rest digits h e =
    let same : 37 ≡ b = (first_are 37 b digits (name ++ rest) e).0 in
    let no : not (nat_eq b 37) ≡ true = (name_parts (b ∷ name) h).2 in
    let yes : not (nat_eq b 37) ≡ false = ap (λ c. not (nat_eq c 37)) (sym same) in
    absurd (cc)

pub id_is : (digits : List ℕ) (n : ℕ) → number_of digits ≡ Some n → IsPath (Id n) (37 ∷ digits)
id_is digits n h = (digits, refl, h)

pub no_id : (digits : List ℕ) → number_of digits ≡ None → (path : PathText) → ¬ IsPath path (37 ∷ digits)
no_id digits h (Name name parts) k = name_begins name k.0 digits k.2 k.1
no_id digits h (Id n) k =
    let same : number_of digits ≡ Some n = ap number_of (first_are 37 37 digits k.0 k.1).1 ∙ k.2 in
    absurd (cc)

pub named_is : (name rest text : List ℕ) (parts : List PathPart) (n : ℕ) → name ≡ take n text → rest ≡ drop n text → is_name name ≡ true → AreParts parts rest → IsPath (Name name parts) text
named_is name rest text parts n front back h hs = (rest, sym (ap (λ a. a ++ rest) front ∙ ap (λ b. take n text ++ b) back ∙ take-append-drop n text), h, hs)

pub no_name : (name text : List ℕ) (n : ℕ) → n ≡ position_or_len is_mark text → name ≡ take n text → is_name name ≡ false → ((rest : List ℕ) → text ≢ 37 ∷ rest) → (path : PathText) → ¬ IsPath path text
no_name name text n k front h begins (Name other parts) p =
    let same : name ≡ other = front ∙ (name_is other p.0 text parts p.1 p.2 p.3 n k).0 in
    let yes : is_name name ≡ true = ap is_name same ∙ p.2 in
    absurd (cc)
no_name name text n k front h begins (Id id) p = begins p.0 p.1

pub no_parts : (rest text : List ℕ) (n : ℕ) → n ≡ position_or_len is_mark text → rest ≡ drop n text → ((parts : List PathPart) → ¬ AreParts parts rest) → ((rest : List ℕ) → text ≢ 37 ∷ rest) → (path : PathText) → ¬ IsPath path text
no_parts rest text n k back h begins (Name other parts) p =
    let same : p.0 ≡ rest = sym (back ∙ (name_is other p.0 text parts p.1 p.2 p.3 n k).1) in
    h parts (subst (AreParts parts) same p.3)
no_parts rest text n k back h begins (Id id) p = begins p.0 p.1

pub empty_begins : (text : List ℕ) → text ≡ [] → (path : PathText) → ¬ IsPath path text
empty_begins text e (Name [] parts) p = let no : false ≡ true = p.2 in absurd (cc)
empty_begins text e (Name (b ∷ name) parts) p = absurd (cc)
empty_begins text e (Id n) p = absurd (cc)

pub other_begins : (text rest : List ℕ) (b : ℕ) → text ≡ b ∷ rest → b ≢ 37 → (others : List ℕ) → text ≢ 37 ∷ others
other_begins text rest b e h others k = h (first_are b 37 rest others (sym e ∙ k)).0

-- ---- parts that are read one by one

-- a text is one part at most
pub one_part : (a b : PathPart) (text : List ℕ) → IsPart a text → IsPart b text → a ≡ b
one_part (Member name) (Member other) text h k = ap Member (first_are 46 46 name other (sym h.0 ∙ k.0)).1
one_part (Member name) (Index n) text h k = absurd (omega (arith, (first_are 46 91 name (k.0 ++ (93 ∷ [])) (sym h.0 ∙ k.1)).0))
one_part (Index n) (Member name) text h k = absurd (omega (arith, (first_are 91 46 (h.0 ++ (93 ∷ [])) name (sym h.1 ∙ k.0)).0))
one_part (Index n) (Index m) text h k =
    let digits : h.0 ≡ k.0 = (same_from_push h.0 k.0 93 93 (first_are 91 91 (h.0 ++ (93 ∷ [])) (k.0 ++ (93 ∷ [])) (sym h.1 ∙ k.1)).1).0 in
    let both : Some n ≡ Some m = sym h.2 ∙ ap number_of digits ∙ k.2 in
    let same : n ≡ m = cc in
    ap Index same

-- where the first cut is no part there are no parts
pub no_first : (rest first : List ℕ) (n : ℕ) → 0 < length rest → n ≡ 1 + position_or_len is_mark (drop 1 rest) → first ≡ take n rest → ((part : PathPart) → ¬ IsPart part first) → (parts : List PathPart) → ¬ AreParts parts rest
no_first rest first n some k front lacks [] h = absurd (omega (arith, some, ap length h))
no_first rest first n some k front lacks (part ∷ parts) h =
    let same : h.0 ≡ first = sym (front ∙ (first_part_is part parts rest h.0 h.1 h.2 h.3 h.4 n k).0) in
    lacks part (subst (IsPart part) same h.3)

-- one part more was read
pub part_sound : (text rest first after : List ℕ) (done : List PathPart) (part : PathPart) (n : ℕ) → first ≡ take n rest → after ≡ drop n rest → IsPart part first → ((ps : List PathPart) → AreParts ps rest → AreParts (done ++ ps) text) → (ps : List PathPart) → AreParts ps after → AreParts ((done ++ part ∷ []) ++ ps) text
part_sound text rest first after done part n front back h sound ps hs =
    let whole : rest ≡ first ++ after = sym (ap (λ a. a ++ after) front ∙ ap (λ b. take n rest ++ b) back ∙ take-append-drop n rest) in
    subst (λ l. AreParts l text) (sym (append_assoc done (part ∷ []) ps)) (sound (part ∷ ps) (first, after, whole, h, hs))

pub part_complete : (text rest first after : List ℕ) (done : List PathPart) (part : PathPart) (n : ℕ) → 0 < length rest → n ≡ 1 + position_or_len is_mark (drop 1 rest) → first ≡ take n rest → after ≡ drop n rest → IsPart part first → ((ps : List PathPart) → AreParts ps text → (qs : List PathPart) × AreParts qs rest × (ps ≡ done ++ qs)) → (ps : List PathPart) → AreParts ps text → (qs : List PathPart) × AreParts qs after × (ps ≡ (done ++ part ∷ []) ++ qs)
part_complete text rest first after done part n some k front back h complete ps hs = complete_by (complete ps hs)
  where
    complete_by : (qs : List PathPart) × AreParts qs rest × (ps ≡ done ++ qs) → (qs : List PathPart) × AreParts qs after × (ps ≡ (done ++ part ∷ []) ++ qs)
    complete_by ([], h', e) = absurd (omega (arith, some, ap length h'))
    complete_by (other ∷ qs, h', e) =
        let cut = first_part_is other qs rest h'.0 h'.1 h'.2 h'.3 h'.4 n k in
        let here : IsPart other first = subst (IsPart other) (sym (front ∙ cut.0)) h'.3 in
        let same : other ≡ part = one_part other part first here h in
        (qs, subst (AreParts qs) (sym (back ∙ cut.1)) h'.4, e ∙ ap (λ p. done ++ p ∷ qs) same ∙ sym (append_assoc done (part ∷ []) qs))
