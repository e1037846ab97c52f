-- A line is one command at most, and one answer is due to it.
use Rattle.std.proofs.Common.{◌≡◌, ℕ, inl, inr, List, [], ◌∷◌, Some, Ok, Err, Result, refl, sym, ap, ◌∙◌, subst, arith}
use Rattle.spv_base.specs.Answers.{Answers}
use Rattle.spv_base.specs.declared.causes.Fail.{Fail}
use Rattle.spv_base.specs.declared.causes.Fail.TheVariants.{Refused, NoMemory}
use Rattle.spv_base.specs.declared.causes.CmdRefusal.{CmdRefusal}
use Rattle.spv_cmd.specs.declared.keywords.Keyword.{Keyword}
use Rattle.spv_cmd.specs.declared.command.Command.{Command}
use Rattle.spv_line.specs.Words.{words_in}
use Rattle.spv_cmd.specs.Grammar.{Arguments, row, spelling, Means, AreWords, IsLine}
use Rattle.spv_cmd.specs.Answers.{Reads, AreRefused, IsRefused, IsDue, IsAnswer, IsSplit}
use Rattle.spv_cmd.proofs.CommandLemmas.{is_meant}
use Rattle.spv_cmd.proofs.KeywordLemmas.{one_keyword}

-- ---- one command of the words

one_meaning : (a : Arguments) (words : List (List ℕ)) (c d : Command) → Means a words c → Means a words d → c ≡ d
one_meaning a words c d h k = let both : Some c ≡ Some d = sym (is_meant a words c h) ∙ is_meant a words d k in cc

-- the words after a keyword, where another keyword is spelled so
at_keyword : (k j : Keyword) (words : List (List ℕ)) (c : Command) → spelling k ≡ spelling j → Means (row j).1 words c → Means (row k).1 words c
at_keyword k j words c e h = subst (λ i. Means (row i).1 words c) (sym (one_keyword k j e)) h

one_of_words : (words : List (List ℕ)) (c d : Command) → AreWords words c → AreWords words d → c ≡ d
one_of_words [] c d h k = h ∙ sym k
one_of_words (word ∷ words) c d h k = one_meaning (row h.0).1 words c d h.2 (at_keyword h.0 k.0 words d (sym h.1 ∙ k.1) k.2)

-- a line is one command at most
pub one_command : (line : List ℕ) (c d : Command) → IsLine line c → IsLine line d → c ≡ d
one_command line c d h k = one_of_words (words_in line) c d h.1 k.1

-- ---- one answer

not_both : (words : List (List ℕ)) (c : Command) (code : ℕ) → AreWords words c → ¬ AreRefused words code
not_both [] c code h k = k
not_both (word ∷ words) c code h (inl k) = k.1 h.0 h.1
not_both (word ∷ words) c code h (inr k) = k.3 c (at_keyword k.1 h.0 words c (sym k.2 ∙ h.1) h.2)

not_due : (line : List ℕ) (c : Command) (code : ℕ) → IsLine line c → ¬ IsRefused line code
not_due line c code h (inl k) = absurd (omega (arith, h.0, k.1))
not_due line c code h (inr k) = not_both (words_in line) c code h.1 k.1

one_code_of_words : (words : List (List ℕ)) (a b : ℕ) → AreRefused words a → AreRefused words b → a ≡ b
one_code_of_words [] a b h k = absurd h
one_code_of_words (word ∷ words) a b (inl h) (inl k) = h.0 ∙ sym k.0
one_code_of_words (word ∷ words) a b (inl h) (inr k) = absurd (h.1 k.1 k.2)
one_code_of_words (word ∷ words) a b (inr h) (inl k) = absurd (k.1 h.1 h.2)
one_code_of_words (word ∷ words) a b (inr h) (inr k) = h.0 ∙ sym k.0

one_code : (line : List ℕ) (a b : ℕ) → IsRefused line a → IsRefused line b → a ≡ b
one_code line a b (inl h) (inl k) = h.0 ∙ sym k.0
one_code line a b (inl h) (inr k) = absurd (omega (arith, h.1, k.0))
one_code line a b (inr h) (inl k) = absurd (omega (arith, h.0, k.1))
one_code line a b (inr h) (inr k) = one_code_of_words (words_in line) a b h.1 k.1

one_due : (line : List ℕ) (a b : Result Command CmdRefusal) → IsDue line a → IsDue line b → a ≡ b
one_due line (Ok c) (Ok d) h k = ap Ok (one_command line c d h k)
one_due line (Ok c) (Err r) h k = absurd (not_due line c r.code h k)
one_due line (Err r) (Ok d) h k = absurd (not_due line d r.code k h)
one_due line (Err r) (Err s) h k = let code : r.code ≡ s.code = one_code line r.code s.code h k in ap (λ c. Err (record { code = c })) code

-- what is due is answered
pub due_answered : (line : List ℕ) (result : Result Command (Fail CmdRefusal)) → IsAnswer line result → (due : Result Command CmdRefusal) → IsDue line due → Answers due result
due_answered line (Ok c) h due k = one_due line due (Ok c) k h
due_answered line (Err (Refused r)) h due k = one_due line due (Err r) k h
due_answered line (Err NoMemory) h due k = tt

-- ---- what is answered is due

pub known_line : (line rest : List ℕ) (keyword : Keyword) (result : Result Command (Fail CmdRefusal)) → IsSplit line keyword rest → Reads (Means (row keyword).1 (words_in rest)) result → IsAnswer line result
known_line line rest keyword (Ok c) s h = (s.short, subst (λ words. AreWords words c) (sym s.words) (keyword, refl, h))
known_line line rest keyword (Err (Refused r)) s h = inr (s.short, subst (λ words. AreRefused words r.code) (sym s.words) (inr (h.0, keyword, refl, h.1)))
known_line line rest keyword (Err NoMemory) s h = tt
