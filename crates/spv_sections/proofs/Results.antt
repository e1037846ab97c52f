-- The results of instructions whose ids are in order: no two of them are one id.
use Rattle.std.proofs.Common.{◌≡◌, ◌≢◌, ◌⊎◌, inl, inr, ◌∙◌, ℕ, suc, ◌<◌, ◌≤◌, ◌==◌, Bool, true, false, List, [], ◌∷◌, Some, refl, sym, arith}
use Rattle.std.proofs.lemmas.Bool.{and_parts, cases_eq, eq-eqb, ltb-false, ne_eqb, not-true}
use Rattle.std.specs.Prelude.{nat_lt, not}
use Rattle.std.specs.List.{AllByRecursion, find}
use Rattle.spv_base.proofs.Exports.{both_each, each_weaker}
use Rattle.spv_base.specs.Entries.{reads}
use Rattle.spv_base.specs.Order.{AreDistinct, Ascend}
use Rattle.spv_base.specs.declared.instructions.Inst.{Inst}
use Rattle.spv_ops.specs.Module.{Decoded}
use Rattle.spv_index.specs.declared.positions.Position.{Position}
use Rattle.spv_index.specs.Classes.{class_of, sets_of}
use Rattle.spv_index.specs.Positions.{outside, position_after, stands}
use Rattle.spv_index.specs.Definitions.{has_result as is_result_of}
use Rattle.spv_sections.specs.declared.definitions.Definition.{Definition}
use Rattle.spv_sections.specs.Definitions.{definition_at, definitions_from, definitions_of, first, is_id}
use Rattle.spv_sections.specs.Ids.{is_before, is_result}
use Rattle.spv_sections.specs.Laws.{IsInOrder}

-- words that ascend are no lower than the one that they ascend from
above : (from : ℕ) (insts : List Inst) → Ascend from insts → AllByRecursion (λ (i : Inst). from ≤ i.word) insts
above from [] ascend = tt
above from (i ∷ is) (first, rest) =
    (first, each_weaker (λ (j : Inst). suc i.word ≤ j.word) (λ (j : Inst). from ≤ j.word) (λ j le. omega arith) is (above (suc i.word) is rest))

-- ---- the first definitions

-- the first definition of an id has a word, or a lower one
record IsDefinedBy (definitions : List (ℕ × Definition)) (word id : ℕ) : Type 0 where
  definition : Definition
  is : reads id definitions ≡ Some definition
  early : definition.word ≤ word

defined_here : (definitions : List (ℕ × Definition)) (d : Definition) (id : ℕ) → IsDefinedBy ((id, d) ∷ definitions) d.word id
defined_here definitions d id = record { definition = d; is = rw (eq-eqb id id refl) refl; early = omega arith }

defined_more : (definitions : List (ℕ × Definition)) (d : Definition) (other word id : ℕ) → d.word ≤ word → IsDefinedBy definitions word id
    → IsDefinedBy ((other, d) ∷ definitions) word id
defined_more definitions d other word id le by = by_test (other == id) refl
  where
    by_test : (b : Bool) → (other == id) ≡ b → IsDefinedBy ((other, d) ∷ definitions) word id
    by_test true t = record { definition = d; is = rw t refl; early = le }
    by_test false t = record { definition = by.definition; is = rw t by.is; early = by.early }

all_defined : (sets : List (ℕ × Bool)) (position : Position) (from : ℕ) (insts : List Inst) → Ascend from insts
    → AllByRecursion (λ (i : Inst). IsDefinedBy (definitions_from sets position insts) i.word i.id) insts
all_defined sets position from [] ascend = tt
all_defined sets position from (i ∷ is) (first, rest) =
    let after : Position = position_after position (class_of sets i) i in
    let behind : List (ℕ × Definition) = definitions_from sets after is in (
      defined_here behind (definition_at position i) i.id,
      both_each (λ (j : Inst). suc i.word ≤ j.word) (λ (j : Inst). IsDefinedBy behind j.word j.id) (λ (j : Inst). IsDefinedBy ((i.id, definition_at position i) ∷ behind) j.word j.id)
          (λ j le by. let lower : i.word ≤ j.word = omega arith in defined_more behind (definition_at position i) i.id j.word j.id lower by)
          is (above (suc i.word) is rest) (all_defined sets after (suc i.word) is rest),
    )

-- ---- results

pub results_in : (decoded : Decoded) (sets : List (ℕ × Bool)) (position : Position) (insts : List Inst) → AllByRecursion (IsInOrder decoded) (stands sets position insts)
    → AllByRecursion (λ (i : Inst). is_result decoded i ≡ true) insts
results_in decoded sets position [] order = tt
results_in decoded sets position (i ∷ is) (here, order) = (here.result, results_in decoded sets (position_after position (class_of sets i) i) is order)

pub has_id : (decoded : Decoded) (i : Inst) → is_result decoded i ≡ true → i.id ≢ 0 → (is_id decoded.bound i.id ≡ true) × (is_before i.word (first decoded i.id) ≡ false)
has_id decoded i result some =
    let parts = and_parts (is_id decoded.bound i.id) (not (is_before i.word (first decoded i.id))) (rw (ne_eqb i.id 0 some) at result) in
    (parts.0, not-true (is_before i.word (first decoded i.id)) parts.1)

not_again : (decoded : Decoded) (i : Inst) (word : ℕ) → is_result decoded i ≡ true → i.id ≢ 0 → IsDefinedBy (definitions_of decoded.insts) word i.id → word < i.word → ⊥
unfolding first
not_again decoded i word result some by lt =
    let parts = has_id decoded i result some in
    let late : nat_lt by.definition.word i.word ≡ false = rw (parts.0, by.is) at parts.1 in
    let high : i.word ≤ by.definition.word = ltb-false by.definition.word i.word late in
    let early : by.definition.word ≤ word = by.early in
    omega arith

are_distinct : (decoded : Decoded) (from : ℕ) (insts : List Inst) → Ascend from insts → AllByRecursion (λ (i : Inst). is_result decoded i ≡ true) insts
    → AllByRecursion (λ (i : Inst). IsDefinedBy (definitions_of decoded.insts) i.word i.id) insts → AreDistinct insts
are_distinct decoded from [] ascend results defined = tt
are_distinct decoded from (i ∷ is) (first, rest) (result, results) (by, defined) = (here (cases_eq i.id 0), are_distinct decoded (suc i.word) is rest results defined)
  where
    other : (j : Inst) → (i.id ≡ 0 → ⊥) → suc i.word ≤ j.word → is_result decoded j ≡ true → j.id ≢ i.id
    other j some le r e = not_again decoded j i.word r (λ z. some (sym e ∙ z)) (rw e by) le

    here : (i.id ≡ 0) ⊎ (i.id ≡ 0 → ⊥) → (i.id ≡ 0) ⊎ AllByRecursion (λ (later : Inst). later.id ≢ i.id) is
    here (inl none) = inl none
    here (inr some) = inr (both_each (λ (j : Inst). suc i.word ≤ j.word) (λ (j : Inst). is_result decoded j ≡ true) (λ (j : Inst). j.id ≢ i.id) (λ j. other j some) is (above (suc i.word) is rest) results)

pub distinct : (decoded : Decoded) → Ascend 0 decoded.insts → AllByRecursion (λ (i : Inst). is_result decoded i ≡ true) decoded.insts → AreDistinct decoded.insts
unfolding definitions_of
distinct decoded ascend results = are_distinct decoded 0 decoded.insts ascend results (all_defined (sets_of decoded.insts) outside 0 decoded.insts ascend)

-- ---- the instruction that defines an id

found_more : (insts : List Inst) (i j : Inst) → j.id ≢ i.id → (j.id ≡ 0) ⊎ (find (is_result_of j.id) insts ≡ Some j) → (j.id ≡ 0) ⊎ (find (is_result_of j.id) (i ∷ insts) ≡ Some j)
found_more insts i j other (inl none) = inl none
found_more insts i j other (inr found) = let no : (i.id == j.id) ≡ false = ne_eqb i.id j.id (λ e. other (sym e)) in inr (rw no found)

found_behind : (insts : List Inst) (i j : Inst) → i.id ≡ 0 → (j.id ≡ 0) ⊎ (find (is_result_of j.id) insts ≡ Some j) → (j.id ≡ 0) ⊎ (find (is_result_of j.id) (i ∷ insts) ≡ Some j)
found_behind insts i j none (inl also) = inl also
found_behind insts i j none (inr found) = by_id (cases_eq j.id 0)
  where
    by_id : (j.id ≡ 0) ⊎ (j.id ≡ 0 → ⊥) → (j.id ≡ 0) ⊎ (find (is_result_of j.id) (i ∷ insts) ≡ Some j)
    by_id (inl also) = inl also
    by_id (inr some) = found_more insts i j (λ e. some (e ∙ none)) (inr found)

pub all_found : (insts : List Inst) → AreDistinct insts → AllByRecursion (λ (i : Inst). (i.id ≡ 0) ⊎ (find (is_result_of i.id) insts ≡ Some i)) insts
all_found [] distinct = tt
all_found (i ∷ is) (here, rest) = (inr (rw (eq-eqb i.id i.id refl) refl), behind here (all_found is rest))
  where
    Found : List Inst → Inst → Type 0
    Found list j = (j.id ≡ 0) ⊎ (find (is_result_of j.id) list ≡ Some j)

    behind : (i.id ≡ 0) ⊎ AllByRecursion (λ (later : Inst). later.id ≢ i.id) is → AllByRecursion (Found is) is → AllByRecursion (Found (i ∷ is)) is
    behind (inl none) found = each_weaker (Found is) (Found (i ∷ is)) (λ j. found_behind is i j none) is found
    behind (inr others) found = both_each (λ (j : Inst). j.id ≢ i.id) (Found is) (Found (i ∷ is)) (λ j. found_more is i j) is others found
