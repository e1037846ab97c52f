-- Refusals of arguments are refusals of the words of a row.
use Rattle.std.proofs.Common.{◌≡◌, ℕ, inl, inr, Bool, true, false, not, ap, List, [], ◌∷◌, Option, Some, None, Ok, Err, Result, MatchOption, Bor, sym, ◌∙◌, subst}
use Rattle.std.specs.Option.{is_some}
use Rattle.std.specs.Result.{IsErrAnd}
use Rattle.spv_base.specs.declared.causes.Fail.{Fail}
use Rattle.spv_base.specs.declared.causes.CmdRefusal.{CmdRefusal}
use Rattle.spv_cmd.specs.declared.command.PathText.{PathText}
use Rattle.spv_cmd.specs.declared.command.Command.{Command}
use Rattle.spv_line.specs.Words.{words_in, HasFirstWord}
use Rattle.spv_cmd.specs.Paths.{IsPath}
use Rattle.spv_cmd.specs.Places.{IsPlace}
use Rattle.spv_cmd.specs.Grammar.{Arguments, IsOne, IsNumber, IsPositive, IsCount, IsStretch, Means}
use Rattle.spv_cmd.specs.Grammar.Arguments.{number, positive, count, path, place, numbers, stretch}
use Rattle.spv_cmd.specs.Answers.{Reads}
use Rattle.spv_cmd.proofs.ReadsLemmas.{reads_err, reads_through}

pub number_err : (a : Arguments) (make : ℕ → Command) (words : List (List ℕ)) (e : Fail CmdRefusal) (r : Result Command (Fail CmdRefusal)) → a ≡ number make → IsErrAnd r (λ other. other ≡ e) → Reads (IsNumber words) (Err e) → Reads (Means a words) r
number_err a make words e r is same h = subst (λ b. Reads (Means b words) r) (sym is) (reads_through (IsNumber words) (Means (number make) words) e r same (λ lacks d m. lacks m.0 m.2) h)

pub positive_err : (a : Arguments) (make : ℕ → Command) (words : List (List ℕ)) (e : Fail CmdRefusal) (r : Result Command (Fail CmdRefusal)) → a ≡ positive make → IsErrAnd r (λ other. other ≡ e) → Reads (IsPositive words) (Err e) → Reads (Means a words) r
positive_err a make words e r is same h = subst (λ b. Reads (Means b words) r) (sym is) (reads_through (IsPositive words) (Means (positive make) words) e r same (λ lacks d m. lacks m.0 m.2) h)

pub count_err : (a : Arguments) (make : ℕ → Command) (words : List (List ℕ)) (e : Fail CmdRefusal) (r : Result Command (Fail CmdRefusal)) → a ≡ count make → IsErrAnd r (λ other. other ≡ e) → Reads (IsCount words) (Err e) → Reads (Means a words) r
count_err a make words e r is same h = subst (λ b. Reads (Means b words) r) (sym is) (reads_through (IsCount words) (Means (count make) words) e r same (λ lacks d m. lacks m.0 m.2) h)

pub path_err : (a : Arguments) (make : PathText → Command) (words : List (List ℕ)) (e : Fail CmdRefusal) (r : Result Command (Fail CmdRefusal)) → a ≡ path make → IsErrAnd r (λ other. other ≡ e) → Reads (λ p. IsOne (IsPath p) words) (Err e) → Reads (Means a words) r
path_err a make words e r is same h = subst (λ b. Reads (Means b words) r) (sym is) (reads_through (λ p. IsOne (IsPath p) words) (Means (path make) words) e r same (λ lacks d m. lacks m.0 m.2) h)

pub place_err : (a : Arguments) (make : Option (List ℕ) × ℕ → Command) (words : List (List ℕ)) (e : Fail CmdRefusal) (r : Result Command (Fail CmdRefusal)) → a ≡ place make → IsErrAnd r (λ other. other ≡ e) → Reads (λ p. IsOne (IsPlace p) words) (Err e) → Reads (Means a words) r
place_err a make words e r is same h = subst (λ b. Reads (Means b words) r) (sym is) (reads_through (λ p. IsOne (IsPlace p) words) (Means (place make) words) e r same (λ lacks d m. lacks m.0 m.2) h)

pub stretch_err : (a : Arguments) (make : ℕ × ℕ → Command) (words : List (List ℕ)) (e : Fail CmdRefusal) (r : Result Command (Fail CmdRefusal)) → a ≡ stretch make → IsErrAnd r (λ other. other ≡ e) → Reads (IsStretch words) (Err e) → Reads (Means a words) r
stretch_err a make words e r is same h = subst (λ b. Reads (Means b words) r) (sym is) (reads_through (IsStretch words) (Means (stretch make) words) e r same (λ lacks d m. lacks m.0 m.2) h)

-- ---- a number that may be left out

first_not_none : {T : Type 0} (r : Option T) (A : Type 0) (P : T → Type 0) → MatchOption r A P → is_some r ≡ true → (x : T) × P x
first_not_none None A P h e = absurd (cc)
first_not_none (Some x) A P h e = (x, h)

not_count : (words : List (List ℕ)) (w : List ℕ) (ws : List (List ℕ)) → words ≡ w ∷ ws → ((n : ℕ) → ¬ IsPositive words n) → (n : ℕ) → ¬ IsCount words n
not_count words w ws e lacks n (inl h) = let no : [] ≡ w ∷ ws = sym h.0 ∙ e in absurd (cc)
not_count words w ws e lacks n (inr h) = lacks n h

-- where there is a word, and it is no number
pub no_count : (text : List ℕ) (r : Option (Bor (List ℕ) × Bor (List ℕ))) (b : Bool) → MatchOption r (words_in text ≡ []) (λ parts. HasFirstWord text parts.0.now parts.1.now) → is_some r ≡ not b → b ≡ false → ((n : ℕ) → ¬ IsPositive (words_in text) n) → (n : ℕ) → ¬ IsCount (words_in text) n
no_count text r b h e f =
    let found = first_not_none r (words_in text ≡ []) (λ (parts : Bor (List ℕ) × Bor (List ℕ)). HasFirstWord text parts.0.now parts.1.now) h (e ∙ ap not f) in
    not_count (words_in text) found.0.0.now (words_in found.0.1.now) found.1.words

-- where there is a word, what is read is a number of at least 1
pub count_reads : (text : List ℕ) (result : Result ℕ (Fail CmdRefusal)) (r : Option (Bor (List ℕ) × Bor (List ℕ))) (b : Bool) → MatchOption r (words_in text ≡ []) (λ parts. HasFirstWord text parts.0.now parts.1.now) → is_some r ≡ not b → b ≡ false
    → Reads (IsPositive (words_in text)) result → Reads (IsCount (words_in text)) result
count_reads text (Ok n) r b h e f reads = inr reads
count_reads text (Err error) r b h e f reads = reads_err (IsPositive (words_in text)) (IsCount (words_in text)) error (no_count text r b h e f) reads

-- ---- two numbers

-- where the words behind the first are no number of at least 1
pub no_numbers : (make : ℕ → ℕ → Command) (words rest : List (List ℕ)) (word : List ℕ) → words ≡ word ∷ rest → ((n : ℕ) → ¬ IsPositive rest n) → (c : Command) → ¬ Means (numbers make) words c
no_numbers make words rest word e lacks c m =
    let other : words ≡ m.3.0 ∷ m.3.1 = m.3.2 in
    let same : m.3.1 ≡ rest = cc in
    lacks m.1 (subst (λ ws. IsPositive ws m.1) same m.3.4)

-- where the words behind the first are no number
pub no_stretch : (words rest : List (List ℕ)) (word : List ℕ) → words ≡ word ∷ rest → ((n : ℕ) → ¬ IsNumber rest n) → (s : ℕ × ℕ) → ¬ IsStretch words s
no_stretch words rest word e lacks s h =
    let other : words ≡ h.1 ∷ h.2 = h.3 in
    let same : h.2 ≡ rest = cc in
    lacks s.1 (subst (λ ws. IsNumber ws s.1) same h.5)
