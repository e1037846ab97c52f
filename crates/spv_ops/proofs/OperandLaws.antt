-- Operands that are read are those that their words spell, and the words of operands are read again.
use Rattle.std.proofs.Common.{◌≡◌, ℕ, suc, ◌+◌, ◌<◌, ◌≤◌, Bool, true, false, cond, List, [], ◌∷◌, ◌++◌, length, map, get_or, take, Result, Ok, Err, refl, sym, ap, subst, ◌∙◌, inl, inr, append_assoc}
use Rattle.std.specs.Prelude.{◌==◌, bit_and}
use Rattle.std.specs.List.{AllByRecursion}
use Rattle.std.proofs.lemmas.Bool.{ne_eqb, eqb-true, cases_lt, lt-ltb, le-ltb, cases_Bool}
use Rattle.std.proofs.lemmas.Bool.Decides.{eqb_tells}
use Rattle.std.proofs.lemmas.List.{append-nil, nil_from_length, take_more}
use Rattle.spv_base.specs.declared.instructions.Operand.{Operand}
use Rattle.spv_base.specs.declared.instructions.Operand.TheVariants.{Id, Lit, Text}
use Rattle.spv_ops.specs.declared.grammar.Part.{Part}
use Rattle.spv_ops.specs.declared.grammar.Part.TheVariants as part
use Rattle.spv_ops.specs.declared.grammar.Rest.{Rest}
use Rattle.spv_ops.specs.declared.grammar.Rest.TheVariants as rest
use Rattle.spv_ops.specs.declared.reading.WrongOperands.{WrongOperands}
use Rattle.spv_ops.specs.Steps.{◌>>=◌, before}
use Rattle.spv_ops.specs.Strings.{words_of_text, text_at}
use Rattle.spv_ops.specs.Rests.{is_rest, rest_operands}
use Rattle.spv_ops.specs.Reading.{word_at, memory_operands_at, part_at, ends_at, operands_of}
use Rattle.spv_ops.specs.Encoding.{words_of_operand, words_of_operands, IsPart, EndsAt, FollowsGrammar, HasBytes}
use Rattle.spv_ops.proofs.StringLaws.{AreWords, IsText, text_takes, text_again}

-- a text of bytes that are not zero
abbrev pub IsSound : Operand → Type 0
IsSound (Id id) = Unit {0}
IsSound (Lit literal) = Unit {0}
IsSound (Text bytes) = IsText bytes

abbrev pub AreSound : List Operand → Type 0
AreSound = AllByRecursion IsSound

abbrev Front : Type 0
Front = List Operand × List ℕ

abbrev done : Front → Result Front WrongOperands
done x = Ok x

ok_is : (x y : Front) → done x ≡ done y → x ≡ y
ok_is x y e = cc

abbrev all : List Operand → Result (List Operand) WrongOperands
all operands = Ok operands

all_is : (x y : List Operand) → all x ≡ all y → x ≡ y
all_is x y e = cc

-- the value of a step that did not fail
pub bind_ok : {A B R : Type 0} (r : Result A R) (f : A → Result B R) (y : B) → (r >>= f) ≡ Ok y → (x : A) × (r ≡ Ok x) × (f x ≡ Ok y)
bind_ok (Ok x) f y e = (x, refl, e)
bind_ok (Err d) f y e = absurd cc

-- ---- words of operands

pub words_of_operands-append : (xs ys : List Operand) → words_of_operands (xs ++ ys) ≡ words_of_operands xs ++ words_of_operands ys
words_of_operands-append [] ys = refl
words_of_operands-append (x ∷ xs) ys =
    ap (λ (ws : List ℕ). words_of_operand x ++ ws) (words_of_operands-append xs ys) ∙ sym (append_assoc (words_of_operand x) (words_of_operands xs) (words_of_operands ys))

words_of_ids : (words : List ℕ) → words_of_operands (map Id words) ≡ words
words_of_ids [] = refl
words_of_ids (w ∷ words) = ap (λ (ws : List ℕ). w ∷ ws) (words_of_ids words)

words_of_literals : (words : List ℕ) → words_of_operands (map Lit words) ≡ words
words_of_literals [] = refl
words_of_literals (w ∷ words) = ap (λ (ws : List ℕ). w ∷ ws) (words_of_literals words)

words_of_rest : (r : Rest) (words : List ℕ) → words_of_operands (rest_operands r words) ≡ words
words_of_rest rest.Nothing words = words_of_literals words
words_of_rest rest.Ids words = words_of_ids words
words_of_rest rest.Literals words = words_of_literals words
words_of_rest rest.IdPairs words = words_of_ids words
words_of_rest rest.LoopControl words = words_of_literals words
words_of_rest rest.Decoration words = words_of_literals words
words_of_rest rest.ExecutionMode words = words_of_literals words
words_of_rest rest.ExecutionModeIds [] = refl
words_of_rest rest.ExecutionModeIds (mode ∷ ids) = ap (λ (ws : List ℕ). mode ∷ ws) (words_of_ids ids)

ids_are_sound : (words : List ℕ) → AreSound (map Id words)
ids_are_sound [] = tt
ids_are_sound (w ∷ words) = (tt, ids_are_sound words)

literals_are_sound : (words : List ℕ) → AreSound (map Lit words)
literals_are_sound [] = tt
literals_are_sound (w ∷ words) = (tt, literals_are_sound words)

rest_is_sound : (r : Rest) (words : List ℕ) → AreSound (rest_operands r words)
rest_is_sound rest.Nothing words = literals_are_sound words
rest_is_sound rest.Ids words = ids_are_sound words
rest_is_sound rest.Literals words = literals_are_sound words
rest_is_sound rest.IdPairs words = ids_are_sound words
rest_is_sound rest.LoopControl words = literals_are_sound words
rest_is_sound rest.Decoration words = literals_are_sound words
rest_is_sound rest.ExecutionMode words = literals_are_sound words
rest_is_sound rest.ExecutionModeIds [] = tt
rest_is_sound rest.ExecutionModeIds (mode ∷ ids) = (tt, ids_are_sound ids)

sound_front : (xs ys : List Operand) → AreSound (xs ++ ys) → AreSound xs
sound_front [] ys h = tt
sound_front (x ∷ xs) ys h = (h.0, sound_front xs ys h.1)

sound_back : (xs ys : List Operand) → AreSound (xs ++ ys) → AreSound ys
sound_back [] ys h = h
sound_back (x ∷ xs) ys h = sound_back xs ys h.1

sound_both : (xs ys : List Operand) → AreSound xs → AreSound ys → AreSound (xs ++ ys)
sound_both [] ys h k = k
sound_both (x ∷ xs) ys h k = (h.0, sound_both xs ys h.1 k)

-- each operand has a word
text_has_words : (bytes more : List ℕ) → words_of_text bytes ++ more ≡ [] → ⊥
text_has_words [] more e = cc
text_has_words (a ∷ []) more e = cc
text_has_words (a ∷ b ∷ []) more e = cc
text_has_words (a ∷ b ∷ c ∷ []) more e = cc
text_has_words (a ∷ b ∷ c ∷ d ∷ bytes) more e = cc

no_words : (operands : List Operand) → words_of_operands operands ≡ [] → operands ≡ []
no_words [] e = refl
no_words (Id id ∷ operands) e = absurd cc
no_words (Lit literal ∷ operands) e = absurd cc
no_words (Text bytes ∷ operands) e = absurd (text_has_words bytes (words_of_operands operands) e)

-- ---- parts

-- what was read of a part, and the words after it
record TakesPart (part : Part) (words : List ℕ) (x : Front) : Type 0 where
  is : IsPart part x.0
  parts : words ≡ words_of_operands x.0 ++ x.1
  sound : AreSound x.0
  more_fit : AreWords x.1

AreWords-tail : (w : ℕ) (words : List ℕ) → AreWords (w ∷ words) → AreWords words
AreWords-tail w words h = λ i. h (suc i)

memory_over : (mask : ℕ) (words : List ℕ) → 7 < mask → memory_operands_at (mask ∷ words) ≡ Err (record {})
memory_over mask words over = rw (lt-ltb 7 mask over) refl

memory_plain : (mask : ℕ) (words : List ℕ) → mask ≤ 7 → (bit_and mask 2 == 0) ≡ true → memory_operands_at (mask ∷ words) ≡ Ok (Lit mask ∷ [], words)
memory_plain mask words under plain = rw (le-ltb 7 mask under, plain) refl

memory_aligned : (mask : ℕ) (words : List ℕ) → mask ≤ 7 → (bit_and mask 2 == 0) ≡ false
    → memory_operands_at (mask ∷ words) ≡ (word_at words >>= λ alignment. Ok (Lit mask ∷ Lit alignment.0 ∷ [], alignment.1))
memory_aligned mask words under aligned = rw (le-ltb 7 mask under, aligned) refl

aligned_takes : (mask : ℕ) (words : List ℕ) (x : Front) → AreWords words → mask ≤ 7 → (bit_and mask 2 ≡ 0 → ⊥)
    → (word_at words >>= λ alignment. Ok (Lit mask ∷ Lit alignment.0 ∷ [], alignment.1)) ≡ done x → TakesPart part.MemoryOperands (mask ∷ words) x
aligned_takes mask [] x fits under aligned e = absurd cc
aligned_takes mask (alignment ∷ words) x fits under aligned e =
    subst (TakesPart part.MemoryOperands (mask ∷ alignment ∷ words)) (ok_is (Lit mask ∷ Lit alignment ∷ [], words) x e)
    (record { is = (mask, under, inr (aligned, alignment, refl)); parts = refl; sound = (tt, (tt, tt)); more_fit = AreWords-tail alignment words fits })

memory_takes : (mask : ℕ) (words : List ℕ) (x : Front) → AreWords words → memory_operands_at (mask ∷ words) ≡ done x → TakesPart part.MemoryOperands (mask ∷ words) x
memory_takes mask words x fits e =
    elim (cases_lt 7 mask) [
      | inl over ↦ let wrong : Err (record {}) ≡ done x = sym (memory_over mask words over) ∙ e in absurd cc
      | inr under ↦ elim (eqb_tells (bit_and mask 2) 0) [
        | inl plain ↦ subst (TakesPart part.MemoryOperands (mask ∷ words)) (ok_is (Lit mask ∷ [], words) x (sym (memory_plain mask words under plain.0) ∙ e))
            (record { is = (mask, under, inl (plain.1, refl)); parts = refl; sound = (tt, tt); more_fit = fits })
        | inr aligned ↦ aligned_takes mask words x fits under aligned.1 (sym (memory_aligned mask words under aligned.0) ∙ e)
      ]
    ]

part_takes : (part : Part) (words : List ℕ) (x : Front) → AreWords words → part_at part words ≡ done x → TakesPart part words x
unfolding part_at
part_takes part.Id [] x fits e = absurd cc
part_takes part.Id (w ∷ words) x fits e =
    subst (TakesPart part.Id (w ∷ words)) (ok_is (Id w ∷ [], words) x e) (record { is = (w, refl); parts = refl; sound = (tt, tt); more_fit = AreWords-tail w words fits })
part_takes part.Literal [] x fits e = absurd cc
part_takes part.Literal (w ∷ words) x fits e =
    subst (TakesPart part.Literal (w ∷ words)) (ok_is (Lit w ∷ [], words) x e) (record { is = (w, refl); parts = refl; sound = (tt, tt); more_fit = AreWords-tail w words fits })
part_takes part.String words x fits e =
    let b = bind_ok (text_at words) (λ text. done (Text text.0 ∷ [], text.1)) x e in
    let t = text_takes words b.0 fits b.1 in
    subst (TakesPart part.String words) (ok_is (Text b.0.0 ∷ [], b.0.1) x b.2)
    (record { is = (b.0.0, refl); parts = t.parts ∙ ap (λ (ws : List ℕ). ws ++ b.0.1) (sym (append-nil (words_of_text b.0.0))); sound = (t.text, tt); more_fit = t.more_fit })
part_takes part.MayEnd words x fits e = subst (TakesPart part.MayEnd words) (ok_is ([], words) x e) (record { is = refl; parts = refl; sound = tt; more_fit = fits })
part_takes part.MemoryOperands [] x fits e = absurd cc
part_takes part.MemoryOperands (mask ∷ words) x fits e = memory_takes mask words x (AreWords-tail mask words fits) e

abbrev ReadsPart : Part → List ℕ → List Operand → Type 0
ReadsPart part words operands = AreSound operands → part_at part (words_of_operands operands ++ words) ≡ done (operands, words)

part_again : (part : Part) (operands : List Operand) (words : List ℕ) → IsPart part operands → ReadsPart part words operands
unfolding part_at
part_again part.Id operands words is = subst (ReadsPart part.Id words) (sym is.1) (λ sound. refl)
part_again part.Literal operands words is = subst (ReadsPart part.Literal words) (sym is.1) (λ sound. refl)
part_again part.String operands words is =
    subst (ReadsPart part.String words) (sym is.1) (λ sound. rw (append-nil (words_of_text is.0), text_again is.0 words sound.0) refl)
part_again part.MayEnd operands words is = subst (ReadsPart part.MayEnd words) (sym is) (λ sound. refl)
part_again part.MemoryOperands operands words is =
    elim is.2 [
      | inl plain ↦ subst (ReadsPart part.MemoryOperands words) (sym plain.1) (λ sound. memory_plain is.0 words is.1 (rw plain.0 refl))
      | inr aligned ↦ subst (ReadsPart part.MemoryOperands words) (sym aligned.2) (λ sound. memory_aligned is.0 (aligned.1 ∷ words) is.1 (ne_eqb _ _ aligned.0))
    ]

-- ---- grammars

-- what was read of all words
pub record TakesAll (parts : List Part) (r : Rest) (words : List ℕ) (operands : List Operand) : Type 0 where
  pub follows : FollowsGrammar parts r operands
  pub spelled : words ≡ words_of_operands operands
  pub sound : AreSound operands

guard_ended : (b : Bool) (x y : List Operand) → cond b (all x) (Err (record {})) ≡ all y → (b ≡ true) × (x ≡ y)
guard_ended true x y e = (refl, all_is x y e)
guard_ended false x y e = absurd cc

before_ok : (front : List Operand) (read : Result (List Operand) WrongOperands) (y : List Operand) → before front read ≡ all y → (more : List Operand) × (read ≡ all more) × (front ++ more ≡ y)
before_ok front (Ok more) y e = (more, refl, all_is (front ++ more) y e)
before_ok front (Err d) y e = absurd cc

ends_here : (part : Part) (words : List ℕ) → ends_at part words ≡ true → EndsAt part [] × (words ≡ [])
ends_here part.Id words e = absurd cc
ends_here part.Literal words e = absurd cc
ends_here part.String words e = absurd cc
ends_here part.MayEnd words e = (refl, nil_from_length words (eqb-true _ _ e))
ends_here part.MemoryOperands words e = absurd cc

of_here : (part : Part) (parts : List Part) (r : Rest) (words : List ℕ) → ends_at part words ≡ true → operands_of (part ∷ parts) r words ≡ all []
unfolding operands_of
of_here part parts r words here = rw here refl

of_part : (part : Part) (parts : List Part) (r : Rest) (words : List ℕ) → ends_at part words ≡ false
    → operands_of (part ∷ parts) r words ≡ (part_at part words >>= λ first. before first.0 (operands_of parts r first.1))
unfolding operands_of
of_part part parts r words goes = rw goes refl

spelled_both : (words rest : List ℕ) (first more : List Operand) → words ≡ words_of_operands first ++ rest → rest ≡ words_of_operands more
    → words ≡ words_of_operands (first ++ more)
spelled_both words rest first more one two =
    one ∙ ap (λ (ws : List ℕ). words_of_operands first ++ ws) two ∙ sym (words_of_operands-append first more)

with_part : (part : Part) (parts : List Part) (r : Rest) (first more : List Operand) → IsPart part first → FollowsGrammar parts r more → FollowsGrammar (part ∷ parts) r (first ++ more)
with_part part parts r first more is has = inr (first, more, is, has, refl)

pub operands_take : (parts : List Part) (r : Rest) (words : List ℕ) (operands : List Operand) → AreWords words → operands_of parts r words ≡ Ok operands → TakesAll parts r words operands
unfolding operands_of
operands_take [] r words operands fits e =
    let g = guard_ended (is_rest r words) (rest_operands r words) operands e in
    subst (TakesAll [] r words) g.1 (record { follows = (words, g.0, refl); spelled = sym (words_of_rest r words); sound = rest_is_sound r words })
operands_take (part ∷ parts) r words operands fits e =
    elim (cases_Bool (ends_at part words)) [
      | inl here ↦
          let ends = ends_here part words here in
          let nothing : [] ≡ operands = all_is [] operands (sym (of_here part parts r words here) ∙ e) in
          subst (TakesAll (part ∷ parts) r words) nothing (record { follows = inl ends.0; spelled = ends.1; sound = tt })
      | inr goes ↦
          let b = bind_ok (part_at part words) (λ first. before first.0 (operands_of parts r first.1)) operands (sym (of_part part parts r words goes) ∙ e) in
          let first = part_takes part words b.0 fits b.1 in
          let m = before_ok b.0.0 (operands_of parts r b.0.1) operands b.2 in
          let more = operands_take parts r b.0.1 m.0 first.more_fit m.1 in
          subst (TakesAll (part ∷ parts) r words) {x = b.0.0 ++ m.0} m.2
          (record {
            follows = with_part part parts r b.0.0 m.0 first.is more.follows;
            spelled = spelled_both words b.0.1 b.0.0 m.0 first.parts more.spelled;
            sound = sound_both b.0.0 m.0 first.sound more.sound;
          })
    ]

abbrev ReadsAll : List Part → Rest → List Operand → Type 0
ReadsAll parts r operands = AreSound operands → operands_of parts r (words_of_operands operands) ≡ all operands

ended_again : (part : Part) (parts : List Part) (r : Rest) (operands : List Operand) → EndsAt part operands → ReadsAll (part ∷ parts) r operands
unfolding operands_of
ended_again part.Id parts r operands ends = absurd ends
ended_again part.Literal parts r operands ends = absurd ends
ended_again part.String parts r operands ends = absurd ends
ended_again part.MayEnd parts r operands ends = subst (ReadsAll (part.MayEnd ∷ parts) r) (sym ends) (λ sound. refl)
ended_again part.MemoryOperands parts r operands ends = absurd ends

pub operands_again : (parts : List Part) (r : Rest) (operands : List Operand) → FollowsGrammar parts r operands → ReadsAll parts r operands
unfolding operands_of
operands_again [] r operands (words, is, e) = subst (ReadsAll [] r) (sym e) (λ sound. rw (words_of_rest r words, is) refl)
operands_again (part ∷ parts) r operands (inl ends) = ended_again part parts r operands ends
operands_again (part ∷ parts) r operands (inr (first, more, is, has, e)) =
    subst (ReadsAll (part ∷ parts) r) (sym e) (λ sound.
    elim (cases_Bool (ends_at part (words_of_operands (first ++ more)))) [
      | inl here ↦
          let nothing : first ++ more ≡ [] = no_words (first ++ more) (ends_here part (words_of_operands (first ++ more)) here).1 in
          of_here part parts r (words_of_operands (first ++ more)) here ∙ ap (λ (ops : List Operand). all ops) (sym nothing)
      | inr goes ↦
          of_part part parts r (words_of_operands (first ++ more)) goes
          ∙ rw (words_of_operands-append first more, part_again part first (words_of_operands more) is (sound_front first more sound), operands_again parts r more has (sound_back first more sound)) refl
    ])

-- ---- one more operand

bytes_both : (xs ys : List Operand) → AllByRecursion HasBytes xs → AllByRecursion HasBytes ys → AllByRecursion HasBytes (xs ++ ys)
bytes_both [] ys h k = k
bytes_both (x ∷ xs) ys h k = (h.0, bytes_both xs ys h.1 k)

pub words_more : (words : List ℕ) (operands : List Operand) (i : ℕ) (operand : Operand) → i < length operands → operand ≡ get_or operands i operand
    → (words ++ words_of_operands (take i operands)) ++ words_of_operand operand ≡ words ++ words_of_operands (take (i + 1) operands)
words_more words operands i operand lt is =
    let whole : take (i + 1) operands ≡ take i operands ++ operand ∷ [] = take_more operands i operand lt ∙ ap (λ (o : Operand). take i operands ++ o ∷ []) (sym is) in
    rw (whole, words_of_operands-append (take i operands) (operand ∷ []), append-nil (words_of_operand operand)) (append_assoc words (words_of_operands (take i operands)) (words_of_operand operand))

pub bytes_more : (operands : List Operand) (i : ℕ) (operand : Operand) → i < length operands → operand ≡ get_or operands i operand
    → AllByRecursion HasBytes (take i operands) → HasBytes operand → AllByRecursion HasBytes (take (i + 1) operands)
bytes_more operands i operand lt is before one =
    let whole : take (i + 1) operands ≡ take i operands ++ operand ∷ [] = take_more operands i operand lt ∙ ap (λ (o : Operand). take i operands ++ o ∷ []) (sym is) in
    subst (λ (os : List Operand). AllByRecursion HasBytes os) (sym whole) (bytes_both (take i operands) (operand ∷ []) before (one, tt))
