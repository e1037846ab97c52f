-- What the numbers of the index lead to.
use Rattle.std.proofs.Common.{◌≡◌, ◌∙◌, inl, inr, ℕ, suc, ◌+◌, ◌<◌, ◌≤◌, ◌==◌, ◌&&◌, Bool, true, false, List, [], ◌∷◌, length, map, Option, Some, None, slice_get, unwrap_or, refl, sym, ap, subst, arith}
use Rattle.std.specs.Prelude.{find, if◌then◌else◌, IfSome}
use Rattle.std.specs.Option.{option_and_then}
use Rattle.std.specs.List.{AllByRecursion}
use Rattle.std.proofs.lemmas.Bool.{cases_lt}
use Rattle.std.proofs.lemmas.List.{get_or_past}
use Rattle.std.proofs.lemmas.Grind.{common_steps}
use Rattle.spv_base.specs.Order.{Ascend}
use Rattle.spv_base.specs.declared.instructions.Inst.{Inst}
use Rattle.spv_base.specs.Options.{holds}
use Rattle.spv_ops.specs.Module.{Decoded, IsDecoded}
use Rattle.spv_index.specs.Operands.{id_operand}
use Rattle.spv_index.specs.Contents.{name_target}
use Rattle.spv_index.specs.Definitions.{defining, has_result, is_id, names_it, number_from, number_of, stands_at}
use Rattle.spv_index.specs.Firsts.{AreFirsts, slot}
use Rattle.spv_index.proofs.FirstLemmas.{first_from-map, led, number_from_same}

-- ---- a module has no more instructions than words

fewer_from : (from : ℕ) (insts : List Inst) → from ≤ 1048576 → Ascend from insts → AllByRecursion (λ i. i.word < 1048576) insts → from + length insts ≤ 1048576
fewer_from from [] fits ascend words = omega arith
fewer_from from (i ∷ is) fits ascend words =
    let small : suc i.word ≤ 1048576 = omega (arith, words.0) in
    let rest : suc i.word + length is ≤ 1048576 = fewer_from (suc i.word) is small ascend.1 words.1 in
    let first : from ≤ i.word = ascend.0 in
    let more : from + suc (length is) ≤ 1048576 = omega arith in
    more

pub fewer : (m : Decoded) → IsDecoded m → length m.insts ≤ 1048576
fewer m is = let z : 0 + length m.insts ≤ 1048576 = fewer_from 0 m.insts (omega arith) is.ascend is.words in omega arith

-- ---- numbers by keys

pub definitions_by : (insts : List Inst) (numbers : List (Option ℕ)) → AreFirsts (map (λ i. i.id) insts) numbers
    → (id : ℕ) → id < 1048576 → slot numbers id ≡ number_from 0 (has_result id) insts
definitions_by insts numbers are id small = are.firsts id small ∙ first_from-map 0 (λ i. i.id) insts id

none_at : (n word : ℕ) (insts : List Inst) → 1048576 ≤ word → AllByRecursion (λ i. i.word < 1048576) insts → number_from n (stands_at word) insts ≡ None
none_at n word [] large words = refl
none_at n word (i ∷ is) large words = let below : i.word < 1048576 = words.0 in grind (arith, common_steps, none_at (suc n) word is large words.1)

pub words_by : (insts : List Inst) (numbers : List (Option ℕ)) → AllByRecursion (λ i. i.word < 1048576) insts → AreFirsts (map (λ i. i.word) insts) numbers
    → (word : ℕ) → slot numbers word ≡ number_from 0 (stands_at word) insts
words_by insts numbers words are word = elim (cases_lt word 1048576) as (λ _. slot numbers word ≡ number_from 0 (stands_at word) insts) [
  | inl small ↦ are.firsts word small ∙ first_from-map 0 (λ i. i.word) insts word
  | inr large ↦ (let past : length numbers ≤ word = omega (arith, are.short) in get_or_past numbers word None past ∙ sym (none_at 0 word insts large words))
]

held : (id : ℕ) (o : Option ℕ) → 0 < id → (unwrap_or o 0 == id) ≡ holds id o
held id None some = grind arith
held id (Some x) some = refl

named_it : (id : ℕ) (i : Inst) → 0 < id → (name_target i == id) ≡ names_it id i
named_it id i some = go (i.op == 5) where
  go : (b : Bool) → ((if b then unwrap_or (id_operand i 0) 0 else 0) == id) ≡ (b && holds id (id_operand i 0))
  go true = held id (id_operand i 0) some
  go false = grind arith

pub names_by : (insts : List Inst) (numbers : List (Option ℕ)) → AreFirsts (map name_target insts) numbers
    → (id : ℕ) → 0 < id → id < 1048576 → slot numbers id ≡ number_from 0 (names_it id) insts
names_by insts numbers are id some small =
    are.firsts id small ∙ first_from-map 0 name_target insts id ∙ number_from_same 0 (λ i. name_target i == id) (names_it id) insts (λ i. named_it id i some)

-- ---- what an id or a word is told by

pub no_number : (insts : List Inst) (id : ℕ) → is_id id ≡ false → None ≡ number_of insts id
unfolding number_of
no_number insts id h = rw h refl

pub some_number : (insts : List Inst) (id : ℕ) → is_id id ≡ true → number_from 0 (has_result id) insts ≡ number_of insts id
unfolding number_of
some_number insts id h = rw h refl

pub no_definition : (insts : List Inst) (id : ℕ) → is_id id ≡ false → None ≡ defining insts id
unfolding defining
no_definition insts id h = rw h refl

pub some_definition : (insts : List Inst) (id : ℕ) → is_id id ≡ true → find (has_result id) insts ≡ defining insts id
unfolding defining
some_definition insts id h = rw h refl

later : (k n : ℕ) (o : Option ℕ) → IfSome o (λ m. m < suc k + n) → IfSome o (λ m. m < k + suc n)
later k n None h = tt
later k n (Some m) h = let below : m < suc k + n = h in omega arith

within_from : (k : ℕ) (p : Inst → Bool) (insts : List Inst) → IfSome (number_from k p insts) (λ n. n < k + length insts)
within_from k p [] = tt
within_from k p (i ∷ is) = go (p i) (within_from (suc k) p is) where
  go : (b : Bool) → IfSome (number_from (suc k) p is) (λ n. n < suc k + length is) → IfSome (if b then Some k else number_from (suc k) p is) (λ n. n < k + suc (length is))
  go true h = let below : k < k + suc (length is) = omega arith in below
  go false h = later k (length is) (number_from (suc k) p is) h

pub number_within : (p : Inst → Bool) (insts : List Inst) (n : ℕ) → Some n ≡ number_from 0 p insts → n < length insts
number_within p insts n e =
    let P : Option ℕ → Type 0 = λ o. IfSome o (λ m. m < 0 + length insts) in
    let fact : n < 0 + length insts = subst P (sym e) (within_from 0 p insts) in
    omega arith

-- ---- in the index of a module

pub small_id : (id : ℕ) → is_id id ≡ true → id < 1048576
small_id id h = grind arith

pub some_id : (id : ℕ) → is_id id ≡ true → 0 < id
some_id id h = grind arith

module _ (m value : Decoded) (is : m ≡ value) where
  pub found_by : (p : Inst → Bool) (insts : List Inst) (n : Option ℕ) (result : Option Inst) → insts ≡ m.insts → result ≡ option_and_then (slice_get insts) n
      → n ≡ number_from 0 p m.insts → result ≡ find p value.insts
  found_by p insts n result same e number = e ∙ rw (same, ← is) (led p m.insts n number)

  pub numbered_by : (p : Inst → Bool) (n : Option ℕ) → n ≡ number_from 0 p m.insts → n ≡ number_from 0 p value.insts
  numbered_by p n number = number ∙ ap (λ (v : Decoded). number_from 0 p v.insts) is
