-- The canonical line of a command is a line of the command.
use Rattle.std.proofs.Common.{◌≡◌, ℕ, ◌+◌, ◌<◌, ◌≤◌, inr, Bool, true, false, not, nat_eq, decimal, List, [], ◌∷◌, ◌++◌, length, get_or, Option, Some, None, refl, sym, ap, ◌∙◌, subst, arith}
use Rattle.std.proofs.lemmas.Bool.{and_parts, and_from, leb-true}
use Rattle.std.specs.Prelude.{filter}
use Rattle.std.specs.List.{slice_split, list_all, All}
use Rattle.std.proofs.lemmas.List.{length-append}
use Rattle.std.proofs.lemmas.List.Folds.{list_all-append}
use Rattle.std.proofs.lemmas.List.Splits.{slice_split_at, slice_split_none}
use Rattle.std.proofs.lemmas.List.Sums.{AllPass-from_list_all}
use Rattle.std.proofs.lemmas.Fmt.{length-decimal-le}
use Rattle.std.proofs.lemmas.Bool.Decides.{nat_tests}
use Rattle.spv_cmd.specs.declared.keywords.Keyword.{Keyword}
use Rattle.spv_cmd.specs.declared.command.PathPart.{PathPart}
use Rattle.spv_cmd.specs.declared.command.PathPart.TheVariants.{Member, Index}
use Rattle.spv_cmd.specs.declared.command.PathText.{PathText}
use Rattle.spv_cmd.specs.declared.command.PathText.TheVariants.{Name, Id}
use Rattle.spv_cmd.specs.declared.command.Command.{Command}
use Rattle.spv_cmd.specs.declared.command.Command.TheVariants as command
use Rattle.spv_line.specs.Words.{is_space, is_other, words_in}
use Rattle.spv_cmd.specs.Paths.{is_name, is_name_byte, is_part, is_path, part_text, parts_text, path_text}
use Rattle.spv_cmd.specs.Places.{is_place, place_text}
use Rattle.spv_cmd.specs.Grammar.{Arguments, row, spelling, Means, AreWords, IsLine}
use Rattle.spv_cmd.specs.Grammar.Arguments.{none, number, positive, count, path, place, numbers, stretch}
use Rattle.spv_cmd.specs.Lines.{Written, blank, alone, with_number, with_count, with_path, with_place, with_numbers, with_stretch, written, text_of, HasForm, line_of}
use Rattle.spv_cmd.proofs.BoolLemmas.{all_also}
use Rattle.spv_line.proofs.Exports.{some_word, decimal_digits, decimal_some}
use Rattle.spv_line.specs.Numbers.{is_digit}
use Rattle.spv_cmd.proofs.NumberLemmas.{number_decimal}
use Rattle.spv_cmd.proofs.PartLemmas.{name_parts}
use Rattle.spv_cmd.proofs.PathLemmas.{path_again}
use Rattle.spv_cmd.proofs.PlaceLemmas.{place_again}
use Rattle.spv_cmd.proofs.KeywordLemmas.{keyword_whole, keyword_some, keyword_short}

-- ---- words

other_no_space : (b : ℕ) → is_other b ≡ true → is_space b ≡ false
other_no_space b h = no_by (is_space b) h
  where
    no_by : (c : Bool) → not c ≡ true → c ≡ false
    no_by true h = absurd (cc)
    no_by false h = refl

no_space : (text : List ℕ) → list_all is_other text ≡ true → All (λ b. is_space b ≡ false) text
no_space text h i d l = other_no_space (get_or text i d) (AllPass-from_list_all is_other text h i d l)

one_word : (word : List ℕ) → list_all is_other word ≡ true → 0 < length word → words_in word ≡ word ∷ []
one_word word whole some = ap (filter (λ w. not (nat_eq (length w) 0))) (slice_split_none is_space word (no_space word whole)) ∙ some_word word [] some

two_words : (word next : List ℕ) → list_all is_other word ≡ true → 0 < length word → list_all is_other next ≡ true → 0 < length next → words_in (word ++ 32 ∷ next) ≡ word ∷ next ∷ []
two_words word next whole some whole' some' =
    ap (filter (λ w. not (nat_eq (length w) 0))) (slice_split_at is_space word 32 next (no_space word whole) refl)
    ∙ some_word word (slice_split is_space next) some
    ∙ ap (λ ws. word ∷ ws) (one_word next whole' some')

three_words : (word next last : List ℕ) → list_all is_other word ≡ true → 0 < length word → list_all is_other next ≡ true → 0 < length next → list_all is_other last ≡ true → 0 < length last
    → words_in (word ++ 32 ∷ (next ++ 32 ∷ last)) ≡ word ∷ next ∷ last ∷ []
three_words word next last whole some whole' some' whole'' some'' =
    ap (filter (λ w. not (nat_eq (length w) 0))) (slice_split_at is_space word 32 (next ++ 32 ∷ last) (no_space word whole) refl)
    ∙ some_word word (slice_split is_space (next ++ 32 ∷ last)) some
    ∙ ap (λ ws. word ∷ ws) (two_words next last whole' some' whole'' some'')

-- ---- texts without spaces

digit_other : (b : ℕ) → is_digit b ≡ true → is_other b ≡ true
digit_other b h = grind (arith, nat_tests)

name_other : (b : ℕ) → is_name_byte b ≡ true → is_other b ≡ true
name_other b h = (and_parts _ _ h).0

decimal_whole : (n : ℕ) → n ≤ 4294967295 → list_all is_other (decimal n) ≡ true
decimal_whole n h = all_also is_digit is_other digit_other (decimal n) (decimal_digits n h)

joined : (front back : List ℕ) → list_all is_other front ≡ true → list_all is_other back ≡ true → list_all is_other (front ++ back) ≡ true
joined front back h k = list_all-append is_other front back ∙ and_from _ _ h k

name_whole : (name : List ℕ) → is_name name ≡ true → list_all is_other name ≡ true
name_whole name h = all_also is_name_byte is_other name_other name (name_parts name h).1

name_some : (name : List ℕ) → is_name name ≡ true → 0 < length name
name_some name h = let test = (name_parts name h).0 in some_by (length name) test
  where
    some_by : (n : ℕ) → not (nat_eq n 0) ≡ true → 0 < n
    some_by n h = grind (arith, nat_tests)

part_whole : (part : PathPart) → is_part part ≡ true → list_all is_other (part_text part) ≡ true
part_whole (Member name) h = name_whole name h
part_whole (Index n) h = joined (decimal n) (93 ∷ []) (decimal_whole n (leb-true n 4294967295 h)) refl

parts_whole : (parts : List PathPart) → list_all is_part parts ≡ true → list_all is_other (parts_text parts) ≡ true
parts_whole [] h = refl
parts_whole (part ∷ parts) h =
    let both = and_parts (is_part part) (list_all is_part parts) h in
    joined (part_text part) (parts_text parts) (part_whole part both.0) (parts_whole parts both.1)

path_whole : (p : PathText) → is_path p ≡ true → (list_all is_other (path_text p) ≡ true) × (0 < length (path_text p))
path_whole (Name name parts) h =
    let both = and_parts (is_name name) (list_all is_part parts) h in
    (joined name (parts_text parts) (name_whole name both.0) (parts_whole parts both.1), omega (arith, name_some name both.0, length-append name (parts_text parts)))
path_whole (Id n) h = (decimal_whole n (leb-true n 4294967295 h), omega arith)

place_whole : (p : Option (List ℕ) × ℕ) → is_place p ≡ true → (list_all is_other (place_text p) ≡ true) × (0 < length (place_text p))
place_whole (None, line) h = (decimal_whole line (leb-true line 4294967295 h), decimal_some line (leb-true line 4294967295 h))
place_whole (Some file, line) h =
    let one = and_parts _ _ h in
    let two = and_parts _ _ one.1 in
    let behind : list_all is_other (58 ∷ decimal line) ≡ true = decimal_whole line (leb-true line 4294967295 two.1) in
    (joined file (58 ∷ decimal line) two.0 behind, omega (arith, length-append file (58 ∷ decimal line)))

-- ---- lines

alone_line : (k : Keyword) (it : Command) → (row k).1 ≡ none it → IsLine (spelling k) it
alone_line k it e =
    let words = one_word (spelling k) (keyword_whole k) (keyword_some k) in
    (omega (arith, keyword_short k), subst (λ ws. AreWords ws it) (sym words) (k, refl, subst (λ a. Means a [] it) (sym e) (refl, refl)))

-- a line of a keyword and one argument
argument_line : (k : Keyword) (it : Command) (argument : List ℕ) → list_all is_other argument ≡ true → 0 < length argument → length (spelling k) + length argument < 4096 → Means (row k).1 (argument ∷ []) it → IsLine (spelling k ++ 32 ∷ argument) it
argument_line k it argument whole some short h = (
  omega (arith, length-append (spelling k) (32 ∷ argument), short),
  subst (λ ws. AreWords ws it) (sym (two_words (spelling k) argument (keyword_whole k) (keyword_some k) whole some)) (k, refl, h),
)

short_number : (k : Keyword) (n : ℕ) → n ≤ 4294967295 → length (spelling k) + length (decimal n) < 4096
short_number k n h = omega (arith, keyword_short k, length-decimal-le 10 n (omega arith) (omega (arith, h)) (omega (arith, h)))

number_line : (k : Keyword) (make : ℕ → Command) (n : ℕ) → (row k).1 ≡ number make → n ≤ 4294967295 → IsLine (spelling k ++ 32 ∷ decimal n) (make n)
number_line k make n e h = argument_line k (make n) (decimal n) (decimal_whole n h) (decimal_some n h) (short_number k n h) (subst (λ a. Means a (decimal n ∷ []) (make n)) (sym e) (n, refl, (decimal n, refl, number_decimal n h)))

count_line : (k : Keyword) (make : ℕ → Command) (n : ℕ) → (row k).1 ≡ count make → (1 ≤ n) × (n ≤ 4294967295) → IsLine (spelling k ++ 32 ∷ decimal n) (make n)
count_line k make n e h = argument_line k (make n) (decimal n) (decimal_whole n h.1) (decimal_some n h.1) (short_number k n h.1) (subst (λ a. Means a (decimal n ∷ []) (make n)) (sym e) (n, refl, inr (h.0, (decimal n, refl, number_decimal n h.1))))

positive_line : (k : Keyword) (make : ℕ → Command) (n : ℕ) → (row k).1 ≡ positive make → (1 ≤ n) × (n ≤ 4294967295) → IsLine (spelling k ++ 32 ∷ decimal n) (make n)
positive_line k make n e h = argument_line k (make n) (decimal n) (decimal_whole n h.1) (decimal_some n h.1) (short_number k n h.1) (subst (λ a. Means a (decimal n ∷ []) (make n)) (sym e) (n, refl, (h.0, (decimal n, refl, number_decimal n h.1))))

path_line : (k : Keyword) (make : PathText → Command) (p : PathText) → (row k).1 ≡ path make → length (spelling k) ≤ 5 → (is_path p ≡ true) × (length (path_text p) ≤ 4090) → IsLine (spelling k ++ 32 ∷ path_text p) (make p)
path_line k make p e five h = argument_line k (make p) (path_text p) (path_whole p h.0).0 (path_whole p h.0).1 (omega (arith, five, h.1)) (subst (λ a. Means a (path_text p ∷ []) (make p)) (sym e) (p, refl, (path_text p, refl, path_again p h.0)))

place_line : (k : Keyword) (make : Option (List ℕ) × ℕ → Command) (p : Option (List ℕ) × ℕ) → (row k).1 ≡ place make → length (spelling k) ≤ 5 → (is_place p ≡ true) × (length (place_text p) ≤ 4090) → IsLine (spelling k ++ 32 ∷ place_text p) (make p)
place_line k make p e five h = argument_line k (make p) (place_text p) (place_whole p h.0).0 (place_whole p h.0).1 (omega (arith, five, h.1)) (subst (λ a. Means a (place_text p ∷ []) (make p)) (sym e) (p, refl, (place_text p, refl, place_again p h.0)))

pair_short : (k : Keyword) (m n : ℕ) → m ≤ 4294967295 → n ≤ 4294967295 → length (spelling k ++ 32 ∷ (decimal m ++ 32 ∷ decimal n)) ≤ 4096
pair_short k m n l h =
    let short = length-append (spelling k) (32 ∷ (decimal m ++ 32 ∷ decimal n)) in
    let shorter = length-append (decimal m) (32 ∷ decimal n) in
    let first : length (decimal m) ≤ 10 = length-decimal-le 10 m (omega arith) (omega (arith, l)) (omega (arith, l)) in
    let second : length (decimal n) ≤ 10 = length-decimal-le 10 n (omega arith) (omega (arith, h)) (omega (arith, h)) in
    omega (arith, short, shorter, first, second, keyword_short k)

pair_words : (k : Keyword) (m n : ℕ) → m ≤ 4294967295 → n ≤ 4294967295 → words_in (spelling k ++ 32 ∷ (decimal m ++ 32 ∷ decimal n)) ≡ spelling k ∷ decimal m ∷ decimal n ∷ []
pair_words k m n l h = three_words (spelling k) (decimal m) (decimal n) (keyword_whole k) (keyword_some k) (decimal_whole m l) (decimal_some m l) (decimal_whole n h) (decimal_some n h)

numbers_line : (k : Keyword) (make : ℕ → ℕ → Command) (m n : ℕ) → (row k).1 ≡ numbers make → m ≤ 4294967295 → (1 ≤ n) × (n ≤ 4294967295) → IsLine (spelling k ++ 32 ∷ (decimal m ++ 32 ∷ decimal n)) (make m n)
numbers_line k make m n e l h = (
  pair_short k m n l h.1,
  subst (λ ws. AreWords ws (make m n)) (sym (pair_words k m n l h.1))
      (k, refl, subst (λ a. Means a (decimal m ∷ decimal n ∷ []) (make m n)) (sym e) (m, n, refl, (decimal m, decimal n ∷ [], refl, number_decimal m l, (h.0, (decimal n, refl, number_decimal n h.1))))),
)

stretch_line : (k : Keyword) (make : ℕ × ℕ → Command) (s : ℕ × ℕ) → (row k).1 ≡ stretch make → (s.0 < s.1) × (s.1 ≤ 4294967295) → IsLine (spelling k ++ 32 ∷ (decimal s.0 ++ 32 ∷ decimal s.1)) (make s)
stretch_line k make s e h =
    let first : s.0 ≤ 4294967295 = omega (arith, h.0, h.1) in (
      pair_short k s.0 s.1 first h.1,
      subst (λ ws. AreWords ws (make s)) (sym (pair_words k s.0 s.1 first h.1))
          (k, refl, subst (λ a. Means a (decimal s.0 ∷ decimal s.1 ∷ []) (make s)) (sym e) (s, refl, (h.0, decimal s.0, decimal s.1 ∷ [], refl, number_decimal s.0 first, (decimal s.1, refl, number_decimal s.1 h.1)))),
    )

-- ---- what is written of a command, by the row of its keyword

abbrev alone_made : Arguments → Option Command
alone_made (none it) = Some it
alone_made _ = None

abbrev number_made : ℕ → Arguments → Option Command
number_made n (number make) = Some (make n)
number_made n _ = None

abbrev count_made : ℕ → Arguments → Option Command
count_made n (positive make) = Some (make n)
count_made n (count make) = Some (make n)
count_made n _ = None

abbrev path_made : PathText → Arguments → Option Command
path_made p (path make) = Some (make p)
path_made p _ = None

abbrev place_made : Option (List ℕ) × ℕ → Arguments → Option Command
place_made p (place make) = Some (make p)
place_made p _ = None

abbrev numbers_made : (k n : ℕ) → Arguments → Option Command
numbers_made k n (numbers make) = Some (make k n)
numbers_made k n _ = None

abbrev stretch_made : ℕ × ℕ → Arguments → Option Command
stretch_made s (stretch make) = Some (make s)
stretch_made s _ = None

abbrev made : Written → Option Command
made blank = Some command.Empty
made (alone k) = alone_made (row k).1
made (with_number k n) = number_made n (row k).1
made (with_count k n) = count_made n (row k).1
made (with_path k p) = path_made p (row k).1
made (with_place k p) = place_made p (row k).1
made (with_numbers k m n) = numbers_made m n (row k).1
made (with_stretch k s) = stretch_made s (row k).1

made_again : (it : Command) → made (written it) ≡ Some it
made_again = grind arith

-- a path or a place stands behind a word of at most 5 bytes
path_short : (k : Keyword) (p : PathText) (it : Command) → path_made p (row k).1 ≡ Some it → length (spelling k) ≤ 5
path_short = grind arith

place_short : (k : Keyword) (p : Option (List ℕ) × ℕ) (it : Command) → place_made p (row k).1 ≡ Some it → length (spelling k) ≤ 5
place_short = grind arith

alone_again : (k : Keyword) (a : Arguments) (it : Command) → (row k).1 ≡ a → alone_made a ≡ Some it → IsLine (spelling k) it
alone_again k (none that) it e h = let same : that ≡ it = cc in alone_line k it (e ∙ ap none same)
alone_again k (number make) it e h = absurd (cc)
alone_again k (positive make) it e h = absurd (cc)
alone_again k (count make) it e h = absurd (cc)
alone_again k (path make) it e h = absurd (cc)
alone_again k (place make) it e h = absurd (cc)
alone_again k (numbers make) it e h = absurd (cc)
alone_again k (stretch make) it e h = absurd (cc)

number_again : (k : Keyword) (n : ℕ) (a : Arguments) (it : Command) → (row k).1 ≡ a → number_made n a ≡ Some it → n ≤ 4294967295 → IsLine (spelling k ++ 32 ∷ decimal n) it
number_again k n (number make) it e h l = let same : make n ≡ it = cc in subst (IsLine (spelling k ++ 32 ∷ decimal n)) same (number_line k make n e l)
number_again k n (none that) it e h l = absurd (cc)
number_again k n (positive make) it e h l = absurd (cc)
number_again k n (count make) it e h l = absurd (cc)
number_again k n (path make) it e h l = absurd (cc)
number_again k n (place make) it e h l = absurd (cc)
number_again k n (numbers make) it e h l = absurd (cc)
number_again k n (stretch make) it e h l = absurd (cc)

count_again : (k : Keyword) (n : ℕ) (a : Arguments) (it : Command) → (row k).1 ≡ a → count_made n a ≡ Some it → (1 ≤ n) × (n ≤ 4294967295) → IsLine (spelling k ++ 32 ∷ decimal n) it
count_again k n (positive make) it e h l = let same : make n ≡ it = cc in subst (IsLine (spelling k ++ 32 ∷ decimal n)) same (positive_line k make n e l)
count_again k n (count make) it e h l = let same : make n ≡ it = cc in subst (IsLine (spelling k ++ 32 ∷ decimal n)) same (count_line k make n e l)
count_again k n (none that) it e h l = absurd (cc)
count_again k n (number make) it e h l = absurd (cc)
count_again k n (path make) it e h l = absurd (cc)
count_again k n (place make) it e h l = absurd (cc)
count_again k n (numbers make) it e h l = absurd (cc)
count_again k n (stretch make) it e h l = absurd (cc)

text_again : (k : Keyword) (p : PathText) (a : Arguments) (it : Command) → (row k).1 ≡ a → path_made p a ≡ Some it → length (spelling k) ≤ 5 → (is_path p ≡ true) × (length (path_text p) ≤ 4090) → IsLine (spelling k ++ 32 ∷ path_text p) it
text_again k p (path make) it e h five l = let same : make p ≡ it = cc in subst (IsLine (spelling k ++ 32 ∷ path_text p)) same (path_line k make p e five l)
text_again k p (none that) it e h five l = absurd (cc)
text_again k p (number make) it e h five l = absurd (cc)
text_again k p (positive make) it e h five l = absurd (cc)
text_again k p (count make) it e h five l = absurd (cc)
text_again k p (place make) it e h five l = absurd (cc)
text_again k p (numbers make) it e h five l = absurd (cc)
text_again k p (stretch make) it e h five l = absurd (cc)

source_again : (k : Keyword) (p : Option (List ℕ) × ℕ) (a : Arguments) (it : Command) → (row k).1 ≡ a → place_made p a ≡ Some it → length (spelling k) ≤ 5 → (is_place p ≡ true) × (length (place_text p) ≤ 4090) → IsLine (spelling k ++ 32 ∷ place_text p) it
source_again k p (place make) it e h five l = let same : make p ≡ it = cc in subst (IsLine (spelling k ++ 32 ∷ place_text p)) same (place_line k make p e five l)
source_again k p (none that) it e h five l = absurd (cc)
source_again k p (number make) it e h five l = absurd (cc)
source_again k p (positive make) it e h five l = absurd (cc)
source_again k p (count make) it e h five l = absurd (cc)
source_again k p (path make) it e h five l = absurd (cc)
source_again k p (numbers make) it e h five l = absurd (cc)
source_again k p (stretch make) it e h five l = absurd (cc)

numbers_again : (k : Keyword) (m n : ℕ) (a : Arguments) (it : Command) → (row k).1 ≡ a → numbers_made m n a ≡ Some it → m ≤ 4294967295 → (1 ≤ n) × (n ≤ 4294967295) → IsLine (spelling k ++ 32 ∷ (decimal m ++ 32 ∷ decimal n)) it
numbers_again k m n (numbers make) it e h l p = let same : make m n ≡ it = cc in subst (IsLine (spelling k ++ 32 ∷ (decimal m ++ 32 ∷ decimal n))) same (numbers_line k make m n e l p)
numbers_again k m n (none that) it e h l p = absurd (cc)
numbers_again k m n (number make) it e h l p = absurd (cc)
numbers_again k m n (positive make) it e h l p = absurd (cc)
numbers_again k m n (count make) it e h l p = absurd (cc)
numbers_again k m n (path make) it e h l p = absurd (cc)
numbers_again k m n (place make) it e h l p = absurd (cc)
numbers_again k m n (stretch make) it e h l p = absurd (cc)

stretch_again : (k : Keyword) (s : ℕ × ℕ) (a : Arguments) (it : Command) → (row k).1 ≡ a → stretch_made s a ≡ Some it → (s.0 < s.1) × (s.1 ≤ 4294967295) → IsLine (spelling k ++ 32 ∷ (decimal s.0 ++ 32 ∷ decimal s.1)) it
stretch_again k s (stretch make) it e h l = let same : make s ≡ it = cc in subst (IsLine (spelling k ++ 32 ∷ (decimal s.0 ++ 32 ∷ decimal s.1))) same (stretch_line k make s e l)
stretch_again k s (none that) it e h l = absurd (cc)
stretch_again k s (number make) it e h l = absurd (cc)
stretch_again k s (positive make) it e h l = absurd (cc)
stretch_again k s (count make) it e h l = absurd (cc)
stretch_again k s (path make) it e h l = absurd (cc)
stretch_again k s (place make) it e h l = absurd (cc)
stretch_again k s (numbers make) it e h l = absurd (cc)

written_line : (w : Written) (it : Command) → made w ≡ Some it → HasForm w → IsLine (text_of w) it
written_line blank it e h = let same : it ≡ command.Empty = cc in (omega arith, same)
written_line (alone k) it e h = alone_again k (row k).1 it refl e
written_line (with_number k n) it e h = number_again k n (row k).1 it refl e h
written_line (with_count k n) it e h = count_again k n (row k).1 it refl e h
written_line (with_path k p) it e h = text_again k p (row k).1 it refl e (path_short k p it e) h
written_line (with_place k p) it e h = source_again k p (row k).1 it refl e (place_short k p it e) h
written_line (with_numbers k m n) it e h = numbers_again k m n (row k).1 it refl e h.0 (h.1, h.2)
written_line (with_stretch k s) it e h = stretch_again k s (row k).1 it refl e h

pub line_again : (it : Command) → HasForm (written it) → IsLine (line_of it) it
line_again it h = written_line (written it) it (made_again it) h
