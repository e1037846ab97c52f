-- A string that is read is the string that its words spell, and the words of a string are read again.
use Rattle.std.proofs.Common.{◌≡◌, ℕ, suc, ◌/◌, ◌%◌, ◌<◌, ◌^◌, Bool, true, false, cond, List, [], ◌∷◌, ◌++◌, get_or, Result, Ok, Err, refl, sym, ap, subst, ◌∙◌, arith, inl, inr}
use Rattle.std.specs.Prelude.{◌==◌, ◌&&◌}
use Rattle.std.specs.List.{AllByRecursion}
use Rattle.std.proofs.lemmas.Bool.{ne_eqb, eqb-true, and_parts}
use Rattle.std.proofs.lemmas.Bool.Decides.{eqb_tells}
use Rattle.spv_ops.specs.declared.reading.WrongOperands.{WrongOperands}
use Rattle.spv_ops.specs.Steps.{◌>>=◌}
use Rattle.spv_ops.specs.Strings.{word_of, words_of_text, text_len, text_bytes, is_padded, text_at}

abbrev Read : Type 0
Read = Result (List ℕ × List ℕ) WrongOperands

-- each number is a word
abbrev pub AreWords : List ℕ → Type 0
AreWords words = (i : ℕ) → get_or words i 0 < 2 ^ 32

-- the bytes of a string: none is zero
abbrev pub IsText : List ℕ → Type 0
IsText bytes = AllByRecursion (λ byte. (0 < byte) × (byte < 256)) bytes

-- the four bytes of a word
record Spelled (word a b c d : ℕ) : Type 0 where
  byte0 : word % 256 ≡ a
  byte1 : word / 256 % 256 ≡ b
  byte2 : word / 65536 % 256 ≡ c
  byte3 : word / 16777216 % 256 ≡ d

spelled : (a b c d : ℕ) → a < 256 → b < 256 → c < 256 → d < 256 → Spelled (word_of a b c d) a b c d
spelled a b c d la lb lc ld = record { byte0 = omega arith; byte1 = omega arith; byte2 = omega arith; byte3 = omega arith }

respelled : (word a b c d : ℕ) → word < 2 ^ 32 → Spelled word a b c d → word_of a b c d ≡ word
respelled word a b c d lt s = let e0 = s.byte0 in let e1 = s.byte1 in let e2 = s.byte2 in let e3 = s.byte3 in omega arith

-- four bytes that are not zero
text_at-four : (word a b c d : ℕ) (words : List ℕ) → Spelled word a b c d → 0 < a → 0 < b → 0 < c → 0 < d
    → text_at (word ∷ words) ≡ (text_at words >>= λ more. Ok (a ∷ b ∷ c ∷ d ∷ more.0, more.1))
unfolding text_at text_len text_bytes is_padded
text_at-four word a b c d words s pa pb pc pd =
    rw (s.byte0, s.byte1, s.byte2, s.byte3, ne_eqb a 0 (omega arith), ne_eqb b 0 (omega arith), ne_eqb c 0 (omega arith), ne_eqb d 0 (omega arith)) refl

text_at-three : (word a b c : ℕ) (words : List ℕ) → Spelled word a b c 0 → 0 < a → 0 < b → 0 < c → text_at (word ∷ words) ≡ Ok (a ∷ b ∷ c ∷ [], words)
unfolding text_at text_len text_bytes is_padded
text_at-three word a b c words s pa pb pc =
    rw (s.byte0, s.byte1, s.byte2, s.byte3, ne_eqb a 0 (omega arith), ne_eqb b 0 (omega arith), ne_eqb c 0 (omega arith)) refl

text_at-two : (word a b : ℕ) (words : List ℕ) → Spelled word a b 0 0 → 0 < a → 0 < b → text_at (word ∷ words) ≡ Ok (a ∷ b ∷ [], words)
unfolding text_at text_len text_bytes is_padded
text_at-two word a b words s pa pb =
    rw (s.byte0, s.byte1, s.byte2, s.byte3, ne_eqb a 0 (omega arith), ne_eqb b 0 (omega arith)) refl

text_at-one : (word a : ℕ) (words : List ℕ) → Spelled word a 0 0 0 → 0 < a → text_at (word ∷ words) ≡ Ok (a ∷ [], words)
unfolding text_at text_len text_bytes is_padded
text_at-one word a words s pa =
    rw (s.byte0, s.byte1, s.byte2, s.byte3, ne_eqb a 0 (omega arith)) refl

text_at-none : (words : List ℕ) → text_at (0 ∷ words) ≡ Ok ([], words)
unfolding text_at text_len text_bytes is_padded
text_at-none words = refl

-- what was written is read again
pub text_again : (bytes words : List ℕ) → IsText bytes → text_at (words_of_text bytes ++ words) ≡ Ok (bytes, words)
text_again [] words h = text_at-none words
text_again (a ∷ []) words h = text_at-one (word_of a 0 0 0) a words (spelled a 0 0 0 h.0.1 (omega arith) (omega arith) (omega arith)) h.0.0
text_again (a ∷ b ∷ []) words h = text_at-two (word_of a b 0 0) a b words (spelled a b 0 0 h.0.1 h.1.0.1 (omega arith) (omega arith)) h.0.0 h.1.0.0
text_again (a ∷ b ∷ c ∷ []) words h =
    text_at-three (word_of a b c 0) a b c words (spelled a b c 0 h.0.1 h.1.0.1 h.1.1.0.1 (omega arith)) h.0.0 h.1.0.0 h.1.1.0.0
text_again (a ∷ b ∷ c ∷ d ∷ bytes) words h =
    text_at-four (word_of a b c d) a b c d (words_of_text bytes ++ words) (spelled a b c d h.0.1 h.1.0.1 h.1.1.0.1 h.1.1.1.0.1) h.0.0 h.1.0.0 h.1.1.0.0 h.1.1.1.0.0
    ∙ rw (text_again bytes words h.1.1.1.1) refl

-- ---- what is read is spelled so

-- what was read from the front of these words, as its words and the words after it
pub record Takes (words bytes more : List ℕ) : Type 0 where
  pub parts : words ≡ words_of_text bytes ++ more
  pub text : IsText bytes
  pub more_fit : AreWords more

at_none : (word : ℕ) (words : List ℕ) → (word % 256 == 0) ≡ true
    → text_at (word ∷ words) ≡ cond ((word / 256 % 256 == 0) && ((word / 65536 % 256 == 0) && ((word / 16777216 % 256 == 0) && true))) (Ok ([], words)) (Err (record {}))
unfolding text_at text_len text_bytes is_padded
at_none word words a = rw (a, a) refl

at_one : (word : ℕ) (words : List ℕ) → (word % 256 == 0) ≡ false → (word / 256 % 256 == 0) ≡ true
    → text_at (word ∷ words) ≡ cond ((word / 65536 % 256 == 0) && ((word / 16777216 % 256 == 0) && true)) (Ok (word % 256 ∷ [], words)) (Err (record {}))
unfolding text_at text_len text_bytes is_padded
at_one word words a b = rw (a, b, b) refl

at_two : (word : ℕ) (words : List ℕ) → (word % 256 == 0) ≡ false → (word / 256 % 256 == 0) ≡ false → (word / 65536 % 256 == 0) ≡ true
    → text_at (word ∷ words) ≡ cond ((word / 16777216 % 256 == 0) && true) (Ok (word % 256 ∷ word / 256 % 256 ∷ [], words)) (Err (record {}))
unfolding text_at text_len text_bytes is_padded
at_two word words a b c = rw (a, b, c, c) refl

at_three : (word : ℕ) (words : List ℕ) → (word % 256 == 0) ≡ false → (word / 256 % 256 == 0) ≡ false → (word / 65536 % 256 == 0) ≡ false → (word / 16777216 % 256 == 0) ≡ true
    → text_at (word ∷ words) ≡ Ok (word % 256 ∷ word / 256 % 256 ∷ word / 65536 % 256 ∷ [], words)
unfolding text_at text_len text_bytes is_padded
at_three word words a b c d = rw (a, b, c, d, d) refl

at_four : (word : ℕ) (words : List ℕ) → (word % 256 == 0) ≡ false → (word / 256 % 256 == 0) ≡ false → (word / 65536 % 256 == 0) ≡ false → (word / 16777216 % 256 == 0) ≡ false
    → text_at (word ∷ words) ≡ (text_at words >>= λ more. Ok (word % 256 ∷ word / 256 % 256 ∷ word / 65536 % 256 ∷ word / 16777216 % 256 ∷ more.0, more.1))
unfolding text_at text_len text_bytes is_padded
at_four word words a b c d = rw (a, b, c, d) refl

abbrev done : List ℕ × List ℕ → Read
done x = Ok x

ok_is : (x y : List ℕ × List ℕ) → done x ≡ done y → x ≡ y
ok_is x y e = cc

-- a test that let a string through
passed : (b : Bool) (x y : List ℕ × List ℕ) → cond b (done x) (Err (record {})) ≡ done y → (b ≡ true) × (x ≡ y)
passed true x y e = (refl, ok_is x y e)
passed false x y e = absurd cc

-- the string after a word that was read
read_on : (a b c d : ℕ) (read : Read) (x : List ℕ × List ℕ) → (read >>= λ more. Ok (a ∷ b ∷ c ∷ d ∷ more.0, more.1)) ≡ done x
    → (y : List ℕ × List ℕ) × (read ≡ done y) × ((a ∷ b ∷ c ∷ d ∷ y.0, y.1) ≡ x)
read_on a b c d (Ok y) x e = (y, refl, ok_is (a ∷ b ∷ c ∷ d ∷ y.0, y.1) x e)
read_on a b c d (Err f) x e = absurd cc

below : (n : ℕ) → n % 256 < 256
below n = omega arith

abbrev TakesPair : List ℕ → List ℕ × List ℕ → Type 0
TakesPair words x = Takes words x.0 x.1

takes_word : (word : ℕ) (words : List ℕ) (x : List ℕ × List ℕ) → word < 2 ^ 32 → AreWords words
    → ((y : List ℕ × List ℕ) → text_at words ≡ done y → TakesPair words y) → text_at (word ∷ words) ≡ done x → TakesPair (word ∷ words) x
takes_word word words x lt fits later e =
    elim (eqb_tells (word % 256) 0) [
      | inl a ↦
          let p = passed ((word / 256 % 256 == 0) && ((word / 65536 % 256 == 0) && ((word / 16777216 % 256 == 0) && true))) ([], words) x (sym (at_none word words a.0) ∙ e) in
          let q = and_parts (word / 256 % 256 == 0) ((word / 65536 % 256 == 0) && ((word / 16777216 % 256 == 0) && true)) p.0 in
          let r = and_parts (word / 65536 % 256 == 0) ((word / 16777216 % 256 == 0) && true) q.1 in
          let s = and_parts (word / 16777216 % 256 == 0) true r.1 in
          let sp : Spelled word 0 0 0 0 = record { byte0 = a.1; byte1 = eqb-true _ _ q.0; byte2 = eqb-true _ _ r.0; byte3 = eqb-true _ _ s.0 } in
          subst (TakesPair (word ∷ words)) p.1 (record { parts = ap (λ (w : ℕ). w ∷ words) (sym (respelled word 0 0 0 0 lt sp)); text = tt; more_fit = fits })
      | inr a ↦ elim (eqb_tells (word / 256 % 256) 0) [
        | inl b ↦
            let p = passed ((word / 65536 % 256 == 0) && ((word / 16777216 % 256 == 0) && true)) (word % 256 ∷ [], words) x (sym (at_one word words a.0 b.0) ∙ e) in
            let r = and_parts (word / 65536 % 256 == 0) ((word / 16777216 % 256 == 0) && true) p.0 in
            let s = and_parts (word / 16777216 % 256 == 0) true r.1 in
            let sp : Spelled word (word % 256) 0 0 0 = record { byte0 = refl; byte1 = b.1; byte2 = eqb-true _ _ r.0; byte3 = eqb-true _ _ s.0 } in
            subst (TakesPair (word ∷ words)) p.1 (record { parts = ap (λ (w : ℕ). w ∷ words) (sym (respelled word (word % 256) 0 0 0 lt sp)); text = ((omega (arith, a.1), below word), tt); more_fit = fits })
        | inr b ↦ elim (eqb_tells (word / 65536 % 256) 0) [
          | inl c ↦
              let p = passed ((word / 16777216 % 256 == 0) && true) (word % 256 ∷ word / 256 % 256 ∷ [], words) x (sym (at_two word words a.0 b.0 c.0) ∙ e) in
              let s = and_parts (word / 16777216 % 256 == 0) true p.0 in
              let sp : Spelled word (word % 256) (word / 256 % 256) 0 0 = record { byte0 = refl; byte1 = refl; byte2 = c.1; byte3 = eqb-true _ _ s.0 } in
              subst (TakesPair (word ∷ words)) p.1 (record {
                parts = ap (λ (w : ℕ). w ∷ words) (sym (respelled word (word % 256) (word / 256 % 256) 0 0 lt sp));
                text = ((omega (arith, a.1), below word), ((omega (arith, b.1), below (word / 256)), tt));
                more_fit = fits;
              })
          | inr c ↦ elim (eqb_tells (word / 16777216 % 256) 0) [
            | inl d ↦
                let sp : Spelled word (word % 256) (word / 256 % 256) (word / 65536 % 256) 0 = record { byte0 = refl; byte1 = refl; byte2 = refl; byte3 = d.1 } in
                subst (TakesPair (word ∷ words)) (ok_is (word % 256 ∷ word / 256 % 256 ∷ word / 65536 % 256 ∷ [], words) x (sym (at_three word words a.0 b.0 c.0 d.0) ∙ e))
                (record {
                  parts = ap (λ (w : ℕ). w ∷ words) (sym (respelled word (word % 256) (word / 256 % 256) (word / 65536 % 256) 0 lt sp));
                  text = ((omega (arith, a.1), below word), ((omega (arith, b.1), below (word / 256)), ((omega (arith, c.1), below (word / 65536)), tt)));
                  more_fit = fits;
                })
            | inr d ↦
                let sp : Spelled word (word % 256) (word / 256 % 256) (word / 65536 % 256) (word / 16777216 % 256) = record { byte0 = refl; byte1 = refl; byte2 = refl; byte3 = refl } in
                let on = read_on (word % 256) (word / 256 % 256) (word / 65536 % 256) (word / 16777216 % 256) (text_at words) x (sym (at_four word words a.0 b.0 c.0 d.0) ∙ e) in
                let rest = later on.0 on.1 in
                subst (TakesPair (word ∷ words)) on.2
                (record {
                  parts = ap (λ (w : ℕ). w ∷ words) (sym (respelled word (word % 256) (word / 256 % 256) (word / 65536 % 256) (word / 16777216 % 256) lt sp))
                      ∙ ap (λ (ws : List ℕ). word_of (word % 256) (word / 256 % 256) (word / 65536 % 256) (word / 16777216 % 256) ∷ ws) rest.parts;
                  text = ((omega (arith, a.1), below word), ((omega (arith, b.1), below (word / 256)), ((omega (arith, c.1), below (word / 65536)), ((omega (arith, d.1), below (word / 16777216)), rest.text))));
                  more_fit = rest.more_fit;
                })
          ]
        ]
      ]
    ]

none : (x : List ℕ × List ℕ) → text_at [] ≡ done x → ⊥
unfolding text_at
none x e = cc

-- a string that was read is spelled by the words in front of the rest
pub text_takes : (words : List ℕ) (x : List ℕ × List ℕ) → AreWords words → text_at words ≡ Ok x → Takes words x.0 x.1
text_takes [] x fits e = absurd (none x e)
text_takes (word ∷ words) x fits e = takes_word word words x (fits 0) (λ i. fits (suc i)) (λ y h. text_takes words y (λ i. fits (suc i)) h) e
