-- The cases of a switch, one after another.
use Rattle.std.proofs.Common.{◌≡◌, ◌∙◌, ℕ, ◌+◌, ◌*◌, ◌-◌, ◌^◌, ◌==◌, ◌<◌, ◌≤◌, ◌&&◌, true, false, List, [], ◌∷◌, drop, get_or, length, take, Option, None, refl, sym, ap, subst, arith}
use Rattle.std.proofs.lemmas.Bool.{and_parts, ne_eqb}
use Rattle.std.specs.Prelude.{find}
use Rattle.std.specs.List.{list_all}
use Rattle.std.specs.Option.{option_map}
use Rattle.spv_base.specs.declared.instructions.Operand.{Operand}
use Rattle.spv_base.specs.declared.instructions.Operand.TheVariants.{Id, Lit, Text}
use Rattle.spv_cfg.specs.Branches.{at_width, cases_by_two, cases_by_word}
use Rattle.spv_cfg.specs.Operands.{is_literal, literals_in}
use Rattle.spv_results.proofs.Exports.{rest_is}

-- the label of the first case of a number
abbrev pub label_in : ℕ → ℕ → List (ℕ × ℕ) → Option ℕ
label_in width number cs = option_map (λ (c : ℕ × ℕ). c.1) (find (λ (c : ℕ × ℕ). at_width width c.0 == number) cs)

-- one literal before others
pub literal_first : (o : Operand) (w : ℕ) (os : List Operand) → literals_in (o ∷ []) ≡ w ∷ [] → literals_in (o ∷ os) ≡ w ∷ literals_in os
literal_first (Id id) w os h = absurd (cc)
literal_first (Lit v) w os h = let same : v ≡ w = cc in ap (λ (n : ℕ). n ∷ literals_in os) same
literal_first (Text bytes) w os h = absurd (cc)

literals_two : (x y : Operand) (u w : ℕ) (os : List Operand) → literals_in (x ∷ []) ≡ u ∷ [] → literals_in (y ∷ []) ≡ w ∷ [] → literals_in (x ∷ y ∷ os) ≡ u ∷ w ∷ literals_in os
literals_two x y u w os h g = literal_first x u (y ∷ os) h ∙ ap (λ (ws : List ℕ). u ∷ ws) (literal_first y w os g)

literals_three : (x y z : Operand) (u w t : ℕ) (os : List Operand) → literals_in (x ∷ []) ≡ u ∷ [] → literals_in (y ∷ []) ≡ w ∷ [] → literals_in (z ∷ []) ≡ t ∷ [] → literals_in (x ∷ y ∷ z ∷ os) ≡ u ∷ w ∷ t ∷ literals_in os
literals_three x y z u w t os h g k = literals_two x y u w (z ∷ os) h g ∙ ap (λ (ws : List ℕ). u ∷ w ∷ ws) (literal_first z t os k)

a_word : (o : Operand) → is_literal o ≡ true → (w : ℕ) × (literals_in (o ∷ []) ≡ w ∷ [])
a_word (Id id) h = absurd (cc)
a_word (Lit w) h = (w, refl)
a_word (Text bytes) h = absurd (cc)

module _ (width number : ℕ) where
  missed : (n literal : ℕ) → n ≡ at_width width literal → (n ≡ number → ⊥) → (at_width width literal == number) ≡ false
  missed n literal is other = subst (λ (m : ℕ). (m == number) ≡ false) is (ne_eqb n number other)

  -- a case of another number
  pub word_more : (os : List Operand) (x : Operand) (u n : ℕ) (due : Option ℕ) → 2 ≤ length os → x ≡ get_or os 0 x → literals_in (x ∷ []) ≡ u ∷ []
      → n ≡ at_width width u → (n ≡ number → ⊥) → (list_all is_literal os ≡ true) × (label_in width number (cases_by_word (literals_in os)) ≡ due)
      → (list_all is_literal (take (length os - 2) (drop 2 os)) ≡ true) × (label_in width number (cases_by_word (literals_in (take (length os - 2) (drop 2 os)))) ≡ due)
  word_more [] x u n due many first h is other so_far = absurd (omega arith)
  word_more (a ∷ []) x u n due many first h is other so_far = absurd (omega arith)
  word_more (a ∷ b ∷ os) x u n due many first h is other so_far =
      let all = and_parts (is_literal b) (list_all is_literal os) (and_parts (is_literal a) (is_literal b && list_all is_literal os) so_far.0).1 in
      let own : literals_in (a ∷ []) ≡ u ∷ [] = subst (λ (o : Operand). literals_in (o ∷ []) ≡ u ∷ []) first h in
      let label = a_word b all.0 in
      let words = literals_two a b u label.0 os own label.1 in
      let test : (at_width width u == number) ≡ false = missed n u is other in
      let here : label_in width number (cases_by_word (u ∷ label.0 ∷ literals_in os)) ≡ label_in width number (cases_by_word (literals_in os)) = rw test refl in
      let rest : take (length (a ∷ b ∷ os) - 2) (drop 2 (a ∷ b ∷ os)) ≡ os = rest_is (a ∷ b ∷ os) 2 in
      subst (λ (ps : List Operand). (list_all is_literal ps ≡ true) × (label_in width number (cases_by_word (literals_in ps)) ≡ due)) (sym rest)
      (all.1, sym here ∙ ap (λ (ws : List ℕ). label_in width number (cases_by_word ws)) (sym words) ∙ so_far.1)

  pub two_more : (os : List Operand) (x y : Operand) (u w n : ℕ) (due : Option ℕ) → 3 ≤ length os → x ≡ get_or os 0 x → y ≡ get_or os 1 y → literals_in (x ∷ []) ≡ u ∷ [] → literals_in (y ∷ []) ≡ w ∷ []
      → n ≡ at_width width (u + w * 2 ^ 32) → (n ≡ number → ⊥) → (list_all is_literal os ≡ true) × (label_in width number (cases_by_two (literals_in os)) ≡ due)
      → (list_all is_literal (take (length os - 3) (drop 3 os)) ≡ true) × (label_in width number (cases_by_two (literals_in (take (length os - 3) (drop 3 os)))) ≡ due)
  two_more [] x y u w n due many first second h g is other so_far = absurd (omega arith)
  two_more (a ∷ []) x y u w n due many first second h g is other so_far = absurd (omega arith)
  two_more (a ∷ b ∷ []) x y u w n due many first second h g is other so_far = absurd (omega arith)
  two_more (a ∷ b ∷ c ∷ os) x y u w n due many first second h g is other so_far =
      let back = (and_parts (is_literal a) (is_literal b && (is_literal c && list_all is_literal os)) so_far.0).1 in
      let all = and_parts (is_literal c) (list_all is_literal os) (and_parts (is_literal b) (is_literal c && list_all is_literal os) back).1 in
      let own : literals_in (a ∷ []) ≡ u ∷ [] = subst (λ (o : Operand). literals_in (o ∷ []) ≡ u ∷ []) first h in
      let next : literals_in (b ∷ []) ≡ w ∷ [] = subst (λ (o : Operand). literals_in (o ∷ []) ≡ w ∷ []) second g in
      let label = a_word c all.0 in
      let words = literals_three a b c u w label.0 os own next label.1 in
      let test : (at_width width (u + w * 2 ^ 32) == number) ≡ false = missed n (u + w * 2 ^ 32) is other in
      let here : label_in width number (cases_by_two (u ∷ w ∷ label.0 ∷ literals_in os)) ≡ label_in width number (cases_by_two (literals_in os)) = rw test refl in
      let rest : take (length (a ∷ b ∷ c ∷ os) - 3) (drop 3 (a ∷ b ∷ c ∷ os)) ≡ os = rest_is (a ∷ b ∷ c ∷ os) 3 in
      subst (λ (ps : List Operand). (list_all is_literal ps ≡ true) × (label_in width number (cases_by_two (literals_in ps)) ≡ due)) (sym rest)
      (all.1, sym here ∙ ap (λ (ws : List ℕ). label_in width number (cases_by_two ws)) (sym words) ∙ so_far.1)

  -- no case is left
  pub word_none : (os : List Operand) → length os < 2 → None ≡ label_in width number (cases_by_word (literals_in os))
  word_none [] lt = refl
  word_none (Id id ∷ []) lt = refl
  word_none (Lit w ∷ []) lt = refl
  word_none (Text bytes ∷ []) lt = refl
  word_none (a ∷ b ∷ os) lt = absurd (omega arith)

  pub two_none : (os : List Operand) → length os < 3 → None ≡ label_in width number (cases_by_two (literals_in os))
  two_none [] lt = refl
  two_none (Id id ∷ []) lt = refl
  two_none (Lit w ∷ []) lt = refl
  two_none (Text bytes ∷ []) lt = refl
  two_none (Id id ∷ Id other ∷ []) lt = refl
  two_none (Id id ∷ Lit w ∷ []) lt = refl
  two_none (Id id ∷ Text bytes ∷ []) lt = refl
  two_none (Lit w ∷ Id id ∷ []) lt = refl
  two_none (Lit w ∷ Lit t ∷ []) lt = refl
  two_none (Lit w ∷ Text bytes ∷ []) lt = refl
  two_none (Text bytes ∷ Id id ∷ []) lt = refl
  two_none (Text bytes ∷ Lit w ∷ []) lt = refl
  two_none (Text bytes ∷ Text others ∷ []) lt = refl
  two_none (a ∷ b ∷ c ∷ os) lt = absurd (omega arith)
