-- The command that a line is, of those that are built, is its command by the grammar.
use Rattle.std.proofs.Common.{◌≡◌, ℕ, ◌<◌, ◌≤◌, nat_lt, Bool, true, false, cond, ◌⊎◌, inl, inr, List, [], ◌∷◌, length, Option, Some, None, Ok, Err, Result, refl, sym, ap, ◌∙◌, subst, arith}
use Rattle.std.proofs.lemmas.Bool.{ltb-true, ltb-false}
use Rattle.std.proofs.lemmas.Slice.Eq.{bytes_eq-Decides}
use Rattle.std.specs.Prelude.{is_some}
use Rattle.std.specs.Option.{option_and_then, option_map}
use Rattle.std.specs.Result.{IsErrAnd}
use Rattle.std.specs.Str.{bytes_eq}
use Rattle.spv_base.specs.Answers.{Answers}
use Rattle.spv_base.specs.declared.causes.Fail.{Fail}
use Rattle.spv_base.specs.declared.causes.Fail.TheVariants.{Refused, NoMemory}
use Rattle.spv_base.specs.declared.causes.CmdRefusal.{CmdRefusal}
use Rattle.spv_cmd.specs.declared.keywords.Keyword.{Keyword}
use Rattle.spv_cmd.specs.declared.command.Command.{Command}
use Rattle.spv_cmd.specs.declared.command.Command.TheVariants as command
use Rattle.spv_line.specs.Words.{words_in}
use Rattle.spv_cmd.specs.Numbers.{number_of}
use Rattle.spv_cmd.specs.Paths.{IsPath, path_of}
use Rattle.spv_cmd.specs.Places.{IsPlace, place_of}
use Rattle.spv_cmd.specs.Grammar.{Arguments, row, spelling, built, keyword_in, is_built, IsOne, IsNumber, IsPositive, IsCount, IsStretch, AreNumbers, Means, AreWords, IsLine}
use Rattle.spv_cmd.specs.Grammar.Arguments.{none, number, positive, count, path, place, numbers, stretch}
use Rattle.spv_cmd.specs.Commands.{said_by_one, at_least_one, positive_of, count_of, numbers_of, ascending, stretch_of, meant, refused, command_or_refused, command_with, command_in, command_of, IsUnknown}
use Rattle.spv_cmd.specs.Answers.{Reads, IsNoKeyword, AreRefused, IsRefused, IsFirstRefused, IsBlank, IsSplit}
use Rattle.spv_cmd.proofs.CutLemmas.{when, made_of, path_said, path_sound, place_said, place_sound}
use Rattle.spv_cmd.proofs.KeywordLemmas.{one_keyword}

-- ---- what words mean

module _ {T : Type 0} (Says : T → List ℕ → Type 0) (said : List ℕ → Option T) where
  one_said : ((x : T) (word : List ℕ) → Says x word → said word ≡ Some x) → (words : List (List ℕ)) (x : T) → IsOne (Says x) words → said_by_one said words ≡ Some x
  one_said says words x h = ap (said_by_one said) h.1 ∙ says x h.0 h.2

  one_sound : ((x : T) (word : List ℕ) → said word ≡ Some x → Says x word) → (words : List (List ℕ)) (x : T) → said_by_one said words ≡ Some x → IsOne (Says x) words
  one_sound says [] x h = absurd (cc)
  one_sound says (word ∷ []) x h = (word, refl, says x word h)
  one_sound says (word ∷ (more ∷ words)) x h = absurd (cc)

abbrev Spells : ℕ → List ℕ → Type 0
Spells n word = number_of word ≡ Some n

number_said : (words : List (List ℕ)) (n : ℕ) → IsNumber words n → said_by_one number_of words ≡ Some n
number_said words n h = one_said Spells number_of (λ x word e. e) words n h

number_sound : (words : List (List ℕ)) (n : ℕ) → said_by_one number_of words ≡ Some n → IsNumber words n
number_sound words n h = one_sound Spells number_of (λ x word e. e) words n h

at_least : (n : ℕ) → 1 ≤ n → at_least_one n ≡ Some n
at_least n h = let some : nat_lt 0 n ≡ true = grind arith in ap (λ b. cond b (Some n) None) some

positive_said : (words : List (List ℕ)) (n : ℕ) → IsPositive words n → positive_of words ≡ Some n
positive_said words n h = ap (option_and_then at_least_one) (number_said words n h.1) ∙ at_least n h.0

positive_sound : (words : List (List ℕ)) (n : ℕ) → positive_of words ≡ Some n → IsPositive words n
positive_sound words n h = by (said_by_one number_of words) refl h
  where
    by : (o : Option ℕ) → said_by_one number_of words ≡ o → option_and_then at_least_one o ≡ Some n → IsPositive words n
    by None e k = absurd (cc)
    by (Some m) e k =
        let some = when (nat_lt 0 m) (Some m) n k in
        let same : m ≡ n = let s = some.1 in cc in
        (subst (λ x. 1 ≤ x) same (ltb-true 0 m some.0), number_sound words n (e ∙ ap Some same))

count_said : (words : List (List ℕ)) (n : ℕ) → IsCount words n → count_of words ≡ Some n
count_said words n (inl h) = ap count_of h.0 ∙ ap Some (sym h.1)
count_said [] n (inr h) = let no : [] ≡ h.1.0 ∷ [] = h.1.1 in absurd (cc)
count_said (word ∷ words) n (inr h) = positive_said (word ∷ words) n h

count_sound : (words : List (List ℕ)) (n : ℕ) → count_of words ≡ Some n → IsCount words n
count_sound [] n h = let one : n ≡ 1 = cc in inl (refl, one)
count_sound (word ∷ words) n h = inr (positive_sound (word ∷ words) n h)

numbers_said : (words : List (List ℕ)) (k n : ℕ) → AreNumbers words k n → numbers_of words ≡ Some (k, n)
numbers_said words k n h =
    ap numbers_of h.2 ∙ ap (λ (o : Option ℕ). option_and_then {U = ℕ × ℕ} (λ j. option_map (λ m. (j, m)) (positive_of h.1)) o) h.3
    ∙ ap (λ (o : Option ℕ). option_map (λ m. (k, m)) o) (positive_said h.1 n h.4)

numbers_sound : (words : List (List ℕ)) (k n : ℕ) → numbers_of words ≡ Some (k, n) → AreNumbers words k n
numbers_sound [] k n h = absurd (cc)
numbers_sound (word ∷ words) k n h = by (number_of word) refl h
  where
    by : (o : Option ℕ) → number_of word ≡ o → option_and_then {U = ℕ × ℕ} (λ j. option_map (λ m. (j, m)) (positive_of words)) o ≡ Some (k, n) → AreNumbers (word ∷ words) k n
    by None e is = absurd (cc)
    by (Some j) e is =
        let made = made_of (λ m. (j, m)) (positive_of words) (k, n) is in
        let first : k ≡ j = ap (λ (p : ℕ × ℕ). p.0) made.2 in
        let second : n ≡ made.0 = ap (λ (p : ℕ × ℕ). p.1) made.2 in
        (word, words, refl, e ∙ ap Some (sym first), positive_sound words n (made.1 ∙ ap Some (sym second)))

ascending_is : (a b : ℕ) → a < b → ascending a b ≡ Some (a, b)
ascending_is a b h = let below : nat_lt a b ≡ true = grind arith in ap (λ t. cond t (Some (a, b)) None) below

stretch_said : (words : List (List ℕ)) (s : ℕ × ℕ) → IsStretch words s → stretch_of words ≡ Some s
stretch_said words s h =
    ap stretch_of h.3 ∙ ap (λ (o : Option ℕ). option_and_then {U = ℕ × ℕ} (λ a. option_and_then (ascending a) (said_by_one number_of h.2)) o) h.4
    ∙ ap (λ (o : Option ℕ). option_and_then (ascending s.0) o) (number_said h.2 s.1 h.5) ∙ ascending_is s.0 s.1 h.0

abbrev pair_in : Option (ℕ × ℕ) → ℕ × ℕ
pair_in None = (0, 0)
pair_in (Some p) = p

stretch_sound : (words : List (List ℕ)) (s : ℕ × ℕ) → stretch_of words ≡ Some s → IsStretch words s
stretch_sound [] s h = absurd (cc)
stretch_sound (word ∷ words) s h = by (number_of word) (said_by_one number_of words) refl refl h
  where
    by : (o p : Option ℕ) → number_of word ≡ o → said_by_one number_of words ≡ p → option_and_then {U = ℕ × ℕ} (λ a. option_and_then (ascending a) p) o ≡ Some s → IsStretch (word ∷ words) s
    by None p e f is = absurd (cc)
    by (Some a) None e f is = absurd (cc)
    by (Some a) (Some b) e f is =
        let some = when (nat_lt a b) (Some (a, b)) s is in
        let first : a ≡ s.0 = ap (λ o. (pair_in o).0) some.1 in
        let second : b ≡ s.1 = ap (λ o. (pair_in o).1) some.1 in
        (subst (λ x. x < s.1) first (subst (λ x. a < x) second (ltb-true a b some.0)), word, words, refl, e ∙ ap Some first, number_sound words s.1 (f ∙ ap Some second))

pub is_meant : (a : Arguments) (words : List (List ℕ)) (c : Command) → Means a words c → meant a words ≡ Some c
is_meant (none it) words c h = ap (meant (none it)) h.0 ∙ ap Some (sym h.1)
is_meant (number make) words c h = ap (option_map make) (number_said words h.0 h.2) ∙ ap Some (sym h.1)
is_meant (positive make) words c h = ap (option_map make) (positive_said words h.0 h.2) ∙ ap Some (sym h.1)
is_meant (count make) words c h = ap (option_map make) (count_said words h.0 h.2) ∙ ap Some (sym h.1)
is_meant (path make) words c h = ap (option_map make) (one_said IsPath path_of path_said words h.0 h.2) ∙ ap Some (sym h.1)
is_meant (place make) words c h = ap (option_map make) (one_said IsPlace place_of place_said words h.0 h.2) ∙ ap Some (sym h.1)
is_meant (numbers make) words c h = ap (option_map (λ (p : ℕ × ℕ). make p.0 p.1)) (numbers_said words h.0 h.1 h.3) ∙ ap Some (sym h.2)
is_meant (stretch make) words c h = ap (option_map make) (stretch_said words h.0 h.2) ∙ ap Some (sym h.1)

meant_sound : (a : Arguments) (words : List (List ℕ)) (c : Command) → meant a words ≡ Some c → Means a words c
meant_sound (none it) [] c h = let same : c ≡ it = cc in (refl, same)
meant_sound (none it) (word ∷ words) c h = absurd (cc)
meant_sound (number make) words c h = let made = made_of make (said_by_one number_of words) c h in (made.0, made.2, number_sound words made.0 made.1)
meant_sound (positive make) words c h = let made = made_of make (positive_of words) c h in (made.0, made.2, positive_sound words made.0 made.1)
meant_sound (count make) words c h = let made = made_of make (count_of words) c h in (made.0, made.2, count_sound words made.0 made.1)
meant_sound (path make) words c h = let made = made_of make (said_by_one path_of words) c h in (made.0, made.2, one_sound IsPath path_of path_sound words made.0 made.1)
meant_sound (place make) words c h = let made = made_of make (said_by_one place_of words) c h in (made.0, made.2, one_sound IsPlace place_of place_sound words made.0 made.1)
meant_sound (numbers make) words c h = let made = made_of (λ (p : ℕ × ℕ). make p.0 p.1) (numbers_of words) c h in (made.0.0, made.0.1, made.2, numbers_sound words made.0.0 made.0.1 made.1)
meant_sound (stretch make) words c h = let made = made_of make (stretch_of words) c h in (made.0, made.2, stretch_sound words made.0 made.1)

not_meant : (a : Arguments) (words : List (List ℕ)) → ((c : Command) → ¬ Means a words c) → meant a words ≡ None
not_meant a words lacks = by (meant a words) refl
  where
    by : (o : Option Command) → meant a words ≡ o → meant a words ≡ None
    by None e = e
    by (Some c) e = absurd (lacks c (meant_sound a words c e))

-- ---- keywords

found_in : (ks : List Keyword) (word : List ℕ) (k : Keyword) → keyword_in ks word ≡ Some k → word ≡ spelling k
found_in [] word k h = absurd (cc)
found_in (j ∷ ks) word k h = by (λ e. found_in ks word k e) (bytes_eq word (spelling j)) refl h
  where
    by : (keyword_in ks word ≡ Some k → word ≡ spelling k) → (b : Bool) → bytes_eq word (spelling j) ≡ b → cond b (Some j) (keyword_in ks word) ≡ Some k → word ≡ spelling k
    by rest true e is = let same : j ≡ k = cc in (bytes_eq-Decides word (spelling j)).0 e ∙ ap spelling same
    by rest false e is = rest is

none_in : (ks : List Keyword) (word : List ℕ) → IsNoKeyword word → keyword_in ks word ≡ None
none_in ks word lacks = by (keyword_in ks word) refl
  where
    by : (o : Option Keyword) → keyword_in ks word ≡ o → keyword_in ks word ≡ None
    by None e = e
    by (Some k) e = absurd (lacks k (found_in ks word k e))

-- a word that isn't built, or the keyword that it is
unbuilt : (word : List ℕ) → is_built word ≡ false → keyword_in built word ≡ None
unbuilt word h = by (keyword_in built word) h
  where
    by : (o : Option Keyword) → is_some o ≡ false → o ≡ None
    by None e = refl
    by (Some k) e = absurd (cc)

pub built_keyword : (k : Keyword) → is_built (spelling k) ≡ true → keyword_in built (spelling k) ≡ Some k
built_keyword k h = by (keyword_in built (spelling k)) refl h
  where
    by : (o : Option Keyword) → keyword_in built (spelling k) ≡ o → is_some o ≡ true → keyword_in built (spelling k) ≡ Some k
    by None e is = absurd (cc)
    by (Some j) e is = e ∙ ap Some (sym (one_keyword k j (found_in built (spelling k) j e)))

-- ---- lines

short_line : (line : List ℕ) (words : List (List ℕ)) → length line ≤ 4096 → words_in line ≡ words → command_of line ≡ command_in words
unfolding command_of
short_line line words short is = let not_long : nat_lt 4096 (length line) ≡ false = grind arith in ap (λ b. cond b (refused 11) (command_in (words_in line))) not_long ∙ ap command_in is

long_line : (line : List ℕ) → 4096 < length line → command_of line ≡ refused 11
unfolding command_of
long_line line long = let is : nat_lt 4096 (length line) ≡ true = grind arith in ap (λ b. cond b (refused 11) (command_in (words_in line))) is

pub first_refused : (line : List ℕ) (code : ℕ) → IsFirstRefused line code → command_of line ≡ refused code
first_refused line code (inl h) = long_line line h.1 ∙ ap refused (sym h.0)
first_refused line code (inr h) =
    short_line line (h.2 ∷ h.3) h.1 h.4 ∙ ap (λ k. command_with k h.3) (none_in built h.2 h.5) ∙ ap refused (sym h.0)

pub blank_line : (line : List ℕ) → IsBlank line → command_of line ≡ Ok command.Empty
blank_line line h = short_line line [] h.0 h.1

pub unknown_line : (line : List ℕ) → IsUnknown line → command_of line ≡ refused 1
unknown_line line h = short_line line (h.1 ∷ h.2) h.0 h.3 ∙ ap (λ k. command_with k h.2) (unbuilt h.1 h.4)

pub unbuilt_line : (line rest : List ℕ) (k : Keyword) → IsSplit line k rest → is_built (spelling k) ≡ false → command_of line ≡ refused 1
unbuilt_line line rest k s h = unknown_line line (s.short, spelling k, words_in rest, s.words, h)

built_line : (line rest : List ℕ) (k : Keyword) → IsSplit line k rest → is_built (spelling k) ≡ true → command_of line ≡ command_or_refused (meant (row k).1 (words_in rest))
built_line line rest k s h = short_line line (spelling k ∷ words_in rest) s.short s.words ∙ ap (λ j. command_with j (words_in rest)) (built_keyword k h)

pub built_answers : (line rest : List ℕ) (k : Keyword) (result : Result Command (Fail CmdRefusal)) → IsSplit line k rest → is_built (spelling k) ≡ true → Reads (Means (row k).1 (words_in rest)) result → Answers (command_of line) result
built_answers line rest k (Ok c) s h reads = built_line line rest k s h ∙ ap command_or_refused (is_meant (row k).1 (words_in rest) c reads)
built_answers line rest k (Err (Refused r)) s h reads =
    built_line line rest k s h ∙ ap command_or_refused (not_meant (row k).1 (words_in rest) reads.1) ∙ ap refused (sym reads.0)
built_answers line rest k (Err NoMemory) s h reads = tt

pub passes_refusal : (due : Result Command CmdRefusal) (refusal : CmdRefusal) (r : Result Command (Fail CmdRefusal)) → due ≡ Err refusal → IsErrAnd r (λ e. e ≡ Refused refusal) → Answers due r
passes_refusal due refusal (Ok c) is same = absurd same
passes_refusal due refusal (Err e) is same = subst (λ (f : Fail CmdRefusal). Answers due (Err f)) (sym same) is

-- ---- the built commands are those of the grammar

code_of : Result Command CmdRefusal → ℕ
code_of (Ok c) = 0
code_of (Err refusal) = refusal.code

same_code : (n m : ℕ) → refused n ≡ refused m → n ≡ m
unfolding code_of
same_code n m e = ap code_of e

-- what is due to words whose first is a keyword or none that is built
first_of : (word : List ℕ) (words : List (List ℕ)) (due : Result Command CmdRefusal) → command_in (word ∷ words) ≡ due
    → ((is_built word ≡ false) × (due ≡ refused 1)) ⊎ ((k : Keyword) × (word ≡ spelling k) × (due ≡ command_or_refused (meant (row k).1 words)))
first_of word words due h = by (keyword_in built word) refl
  where
    by : (o : Option Keyword) → keyword_in built word ≡ o
        → ((is_built word ≡ false) × (due ≡ refused 1)) ⊎ ((k : Keyword) × (word ≡ spelling k) × (due ≡ command_or_refused (meant (row k).1 words)))
    by None e = inl (ap is_some e, sym h ∙ ap (λ k. command_with k words) e)
    by (Some k) e = inr (k, found_in built word k e, sym h ∙ ap (λ j. command_with j words) e)

-- a line is too long, or its words are looked at
by_length : (line : List ℕ) → ((4096 < length line) × (command_of line ≡ refused 11)) ⊎ ((length line ≤ 4096) × (command_of line ≡ command_in (words_in line)))
by_length line = by (nat_lt 4096 (length line)) refl
  where
    by : (b : Bool) → nat_lt 4096 (length line) ≡ b → ((4096 < length line) × (command_of line ≡ refused 11)) ⊎ ((length line ≤ 4096) × (command_of line ≡ command_in (words_in line)))
    by true e = let long = ltb-true 4096 (length line) e in inl (long, long_line line long)
    by false e = let short = ltb-false 4096 (length line) e in inr (short, short_line line (words_in line) short refl)

meant_command : (k : Keyword) (words : List (List ℕ)) (c : Command) → Ok c ≡ command_or_refused (meant (row k).1 words) → Means (row k).1 words c
meant_command k words c h = by (meant (row k).1 words) refl h
  where
    by : (o : Option Command) → meant (row k).1 words ≡ o → Ok c ≡ command_or_refused o → Means (row k).1 words c
    by None e is = absurd (cc)
    by (Some d) e is = let same : d ≡ c = cc in meant_sound (row k).1 words c (e ∙ ap Some same)

meant_nothing : (k : Keyword) (words : List (List ℕ)) (code : ℕ) → refused code ≡ command_or_refused (meant (row k).1 words) → (code ≡ 2) × ((c : Command) → ¬ Means (row k).1 words c)
meant_nothing k words code h = by (meant (row k).1 words) refl h
  where
    by : (o : Option Command) → meant (row k).1 words ≡ o → refused code ≡ command_or_refused o → (code ≡ 2) × ((c : Command) → ¬ Means (row k).1 words c)
    by None e is = (same_code code 2 is, λ c m. let no : None ≡ Some c = sym e ∙ is_meant (row k).1 words c m in absurd (cc))
    by (Some d) e is = absurd (cc)

command_words : (words : List (List ℕ)) (c : Command) → command_in words ≡ Ok c → AreWords words c
command_words [] c h = let same : c ≡ command.Empty = cc in same
command_words (word ∷ words) c h = by (first_of word words (Ok c) h)
  where
    by : ((is_built word ≡ false) × (Ok c ≡ refused 1)) ⊎ ((k : Keyword) × (word ≡ spelling k) × (Ok c ≡ command_or_refused (meant (row k).1 words))) → AreWords (word ∷ words) c
    by (inl a) = let no : Ok c ≡ refused 1 = a.1 in absurd (cc)
    by (inr a) = (a.0, a.1, meant_command a.0 words c a.2)

pub command_is_line : (line : List ℕ) (c : Command) → command_of line ≡ Ok c → IsLine line c
command_is_line line c h = by (by_length line)
  where
    by : ((4096 < length line) × (command_of line ≡ refused 11)) ⊎ ((length line ≤ 4096) × (command_of line ≡ command_in (words_in line))) → IsLine line c
    by (inl a) = let no : refused 11 ≡ Ok c = sym a.1 ∙ h in absurd (cc)
    by (inr a) = (a.0, command_words (words_in line) c (sym a.1 ∙ h))

words_command : (line : List ℕ) (words : List (List ℕ)) (c : Command) → length line ≤ 4096 → words_in line ≡ words → AreWords words c → ¬ IsUnknown line → command_of line ≡ Ok c
words_command line [] c short e h known = short_line line [] short e ∙ ap Ok (sym h)
words_command line (word ∷ words) c short e h known = short_line line (word ∷ words) short e ∙ by (is_built word) refl
  where
    by : (b : Bool) → is_built word ≡ b → command_in (word ∷ words) ≡ Ok c
    by false is = absurd (known (short, word, words, e, is))
    by true is =
        ap (λ w. command_in (w ∷ words)) h.1
        ∙ ap (λ k. command_with k words) (built_keyword h.0 (ap is_built (sym h.1) ∙ is))
        ∙ ap command_or_refused (is_meant (row h.0).1 words c h.2)

pub line_is_command : (line : List ℕ) (c : Command) → IsLine line c → ¬ IsUnknown line → command_of line ≡ Ok c
line_is_command line c h known = words_command line (words_in line) c h.0 refl h.1 known

words_refused : (line : List ℕ) (words : List (List ℕ)) (code : ℕ) → length line ≤ 4096 → words_in line ≡ words → command_in words ≡ refused code → ((code ≡ 1) × IsUnknown line) ⊎ AreRefused words code
words_refused line [] code short e h = absurd (cc)
words_refused line (word ∷ words) code short e h = by (first_of word words (refused code) h)
  where
    by : ((is_built word ≡ false) × (refused code ≡ refused 1)) ⊎ ((k : Keyword) × (word ≡ spelling k) × (refused code ≡ command_or_refused (meant (row k).1 words)))
        → ((code ≡ 1) × IsUnknown line) ⊎ AreRefused (word ∷ words) code
    by (inl a) = inl (same_code code 1 a.1, (short, word, words, e, a.0))
    by (inr a) = let nothing = meant_nothing a.0 words code a.2 in inr (inr (nothing.0, a.0, a.1, nothing.1))

pub refused_is_line : (line : List ℕ) (code : ℕ) → command_of line ≡ refused code → ((code ≡ 1) × IsUnknown line) ⊎ IsRefused line code
refused_is_line line code h = by (by_length line)
  where
    short_by : length line ≤ 4096 → ((code ≡ 1) × IsUnknown line) ⊎ AreRefused (words_in line) code → ((code ≡ 1) × IsUnknown line) ⊎ IsRefused line code
    short_by short (inl a) = inl a
    short_by short (inr a) = inr (inr (short, a))

    by : ((4096 < length line) × (command_of line ≡ refused 11)) ⊎ ((length line ≤ 4096) × (command_of line ≡ command_in (words_in line))) → ((code ≡ 1) × IsUnknown line) ⊎ IsRefused line code
    by (inl a) = inr (inl (same_code code 11 (sym h ∙ a.1), a.0))
    by (inr a) = short_by a.0 (words_refused line (words_in line) code a.0 refl (sym a.1 ∙ h))
