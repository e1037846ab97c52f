-- The instructions of a module with where they stand, found by their words.
use Rattle.std.proofs.Common.{◌≡◌, ◌∙◌, ℕ, zero, suc, ◌≤◌, ◌==◌, Bool, true, false, cond, List, [], ◌∷◌, Some, slice_get, refl, sym, ap, subst, arith}
use Rattle.std.proofs.lemmas.Bool.{eq-eqb, eqb-true}
use Rattle.std.specs.Prelude.{find}
use Rattle.std.specs.List.{Contains}
use Rattle.spv_base.specs.Order.{Ascend}
use Rattle.spv_base.specs.declared.instructions.Inst.{Inst}
use Rattle.spv_index.specs.declared.positions.Position.{Position}
use Rattle.spv_index.specs.Classes.{class_of, sets_of}
use Rattle.spv_index.specs.Definitions.{at, stands_at}
use Rattle.spv_index.specs.Positions.{Stand, outside, position_after, stands, stands_of}
use Rattle.spv_plans.specs.Members.{members, stands_in}
use Rattle.spv_plans.proofs.Exports.{insts_of_stands, at_contains, contains_at, filtered, filtered_there, map_at, map_from}

-- an instruction is one of a list, with where it stands
pub record IsOne (ss : List Stand) (s : Stand) : Type 0 where
  pub number : ℕ
  pub is : slice_get ss number ≡ Some s

-- ---- words

later_words : (from : ℕ) (is : List Inst) (k : ℕ) (i : Inst) → Ascend from is → slice_get is k ≡ Some i → from ≤ i.word
later_words from [] k i ascend h = absurd (cc)
later_words from (x ∷ is) zero i ascend h = let same : x ≡ i = cc in subst (λ (y : Inst). from ≤ y.word) same ascend.0
later_words from (x ∷ is) (suc k) i ascend h = let later = later_words (suc x.word) is k i ascend.1 h in let here = ascend.0 in omega arith

-- the numbers of instructions are told by their words
pub same_place : (from : ℕ) (is : List Inst) (j k : ℕ) (x y : Inst) → Ascend from is → slice_get is j ≡ Some x → slice_get is k ≡ Some y → x.word ≡ y.word → j ≡ k
same_place from [] j k x y ascend g h same = absurd (cc)
same_place from (i ∷ is) zero zero x y ascend g h same = refl
same_place from (i ∷ is) zero (suc k) x y ascend g h same =
    let here : i ≡ x = cc in
    let own : i.word ≡ x.word = ap (λ (z : Inst). z.word) here in
    let later = later_words (suc i.word) is k y ascend.1 h in
    absurd (omega arith)
same_place from (i ∷ is) (suc j) zero x y ascend g h same =
    let here : i ≡ y = cc in
    let own : i.word ≡ y.word = ap (λ (z : Inst). z.word) here in
    let later = later_words (suc i.word) is j x ascend.1 g in
    absurd (omega arith)
same_place from (i ∷ is) (suc j) (suc k) x y ascend g h same = ap suc (same_place (suc i.word) is j k x y ascend.1 g h same)

-- the instruction that is found at a word
found_at : (word : ℕ) (is : List Inst) (i : Inst) → find (stands_at word) is ≡ Some i → (k : ℕ) × (slice_get is k ≡ Some i) × (i.word ≡ word)
found_at word [] i h = absurd (cc)
found_at word (x ∷ is) i h = by_word (x.word == word) refl h (found_at word is i)
  where
    by_word : (b : Bool) → (x.word == word) ≡ b → cond b (Some x) (find (stands_at word) is) ≡ Some i
        → (find (stands_at word) is ≡ Some i → (k : ℕ) × (slice_get is k ≡ Some i) × (i.word ≡ word)) → (k : ℕ) × (slice_get (x ∷ is) k ≡ Some i) × (i.word ≡ word)
    by_word true here g rest = let same : x ≡ i = cc in (0, g, subst (λ (y : Inst). y.word ≡ word) same (eqb-true x.word word here))
    by_word false here g rest = let there = rest g in (suc there.0, there.1, there.2)

-- no two instructions begin at one word
abbrev pub OnePlace : List Inst → Type 0
OnePlace is = (j k : ℕ) (x y : Inst) → slice_get is j ≡ Some x → slice_get is k ≡ Some y → x.word ≡ y.word → j ≡ k

some_found : (word : ℕ) (is : List Inst) (k : ℕ) (i : Inst) → slice_get is k ≡ Some i → i.word ≡ word → (x : Inst) × (find (stands_at word) is ≡ Some x)
some_found word [] k i h same = absurd (cc)
some_found word (x ∷ is) zero i h same =
    let here : x ≡ i = cc in
    let own : x.word ≡ word = ap (λ (z : Inst). z.word) here ∙ same in
    (x, rw (eq-eqb x.word word own) refl)
some_found word (x ∷ is) (suc k) i h same = by_word (x.word == word) (some_found word is k i h same)
  where
    by_word : (b : Bool) → (y : Inst) × (find (stands_at word) is ≡ Some y) → (y : Inst) × (cond b (Some x) (find (stands_at word) is) ≡ Some y)
    by_word true rest = (x, refl)
    by_word false rest = rest

at_found : (word : ℕ) (is : List Inst) (k : ℕ) (i : Inst) → OnePlace is → slice_get is k ≡ Some i → i.word ≡ word → find (stands_at word) is ≡ Some i
at_found word is k i words h same =
    let some = some_found word is k i h same in
    let there = found_at word is some.0 some.1 in
    let number = words there.0 k some.0 i there.1 h (there.2 ∙ sym same) in
    let it : slice_get is k ≡ Some some.0 = subst (λ (n : ℕ). slice_get is n ≡ Some some.0) number there.1 in
    some.1 ∙ sym it ∙ h

-- ---- instructions with where they stand

pub stand_inst : (insts : List Inst) (k : ℕ) (s : Stand) → slice_get (stands_of insts) k ≡ Some s → slice_get insts k ≡ Some s.inst
stand_inst insts k s h =
    subst (λ (is : List Inst). slice_get is k ≡ Some s.inst) (insts_of_stands (sets_of insts) outside insts) (map_at (λ (t : Stand). t.inst) (stands_of insts) k s h)

inst_stand : (insts : List Inst) (k : ℕ) (i : Inst) → slice_get insts k ≡ Some i → (s : Stand) × (slice_get (stands_of insts) k ≡ Some s) × (s.inst ≡ i)
inst_stand insts k i h =
    map_from (λ (t : Stand). t.inst) (stands_of insts) k i (subst (λ (is : List Inst). slice_get is k ≡ Some i) (sym (insts_of_stands (sets_of insts) outside insts)) h)

classed : (sets : List (ℕ × Bool)) (position : Position) (insts : List Inst) (k : ℕ) (s : Stand) → slice_get (stands sets position insts) k ≡ Some s → s.class ≡ class_of sets s.inst
classed sets position [] k s h = absurd (cc)
classed sets position (i ∷ insts) zero s h =
    let same : (record { position = position; class = class_of sets i; inst = i }) ≡ s = cc in
    subst (λ (t : Stand). t.class ≡ class_of sets t.inst) same refl
classed sets position (i ∷ insts) (suc k) s h = classed sets (position_after position (class_of sets i) i) insts k s h

pub class_is : (insts : List Inst) (s : Stand) → IsOne (stands_of insts) s → s.class ≡ class_of (sets_of insts) s.inst
class_is insts s one = classed (sets_of insts) outside insts one.number s one.is

-- one stand for a word
pub same_stand_at : (insts : List Inst) (s t : Stand) → OnePlace insts → IsOne (stands_of insts) s → IsOne (stands_of insts) t → s.inst.word ≡ t.inst.word → s ≡ t
same_stand_at insts s t words one other same =
    let number = words one.number other.number s.inst t.inst (stand_inst insts one.number s one.is) (stand_inst insts other.number t other.is) same in
    let there : slice_get (stands_of insts) other.number ≡ Some s = subst (λ (n : ℕ). slice_get (stands_of insts) n ≡ Some s) number one.is in
    let it = other.is in
    cc

-- the instruction at a word is that of the stand there
pub at_stand : (insts : List Inst) (s : Stand) (word : ℕ) → OnePlace insts → IsOne (stands_of insts) s → s.inst.word ≡ word → at insts word ≡ Some s.inst
unfolding at
at_stand insts s word words one here = at_found word insts one.number s.inst words (stand_inst insts one.number s one.is) here

-- and it has a stand
pub record Stood (insts : List Inst) (word : ℕ) (i : Inst) : Type 0 where
  pub stand : Stand
  pub one : IsOne (stands_of insts) stand
  pub inst : stand.inst ≡ i
  pub here : i.word ≡ word

pub stood : (insts : List Inst) (word : ℕ) (i : Inst) → at insts word ≡ Some i → Stood insts word i
unfolding at
stood insts word i h =
    let found = found_at word insts i h in
    let stand = inst_stand insts found.0 i found.1 in
    record { stand = stand.0; one = record { number = found.0; is = stand.1 }; inst = stand.2; here = found.2 }

-- ---- the instructions of a function

pub member_one : (insts : List Inst) (function : ℕ) (s : Stand) → Contains (members insts function) s → IsOne (stands_of insts) s × (stands_in function s ≡ true)
member_one insts function s h =
    let at = contains_at (members insts function) s h in
    let found = filtered (stands_in function) (stands_of insts) at.0 s at.1 in
    (record { number = found.0; is = found.1 }, found.2)

pub one_member : (insts : List Inst) (function : ℕ) (s : Stand) → IsOne (stands_of insts) s → stands_in function s ≡ true → Contains (members insts function) s
one_member insts function s one inside =
    let found = filtered_there (stands_in function) (stands_of insts) one.number s one.is inside in
    at_contains (members insts function) found.0 s found.1
