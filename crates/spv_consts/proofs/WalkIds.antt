-- Ids that no two instructions share: what each of them defines, and where it stands.
use Rattle.std.proofs.Common.{◌≡◌, ◌≢◌, ◌⊎◌, ◌∙◌, ℕ, zero, suc, ◌<◌, ◌≤◌, ◌==◌, Bool, true, false, cond, eqb, List, [], ◌∷◌, ◌++◌, map, append_assoc, append-nil, Some, None, inl, inr, refl, sym, ap, arith}
use Rattle.std.proofs.lemmas.Bool.{cases_eq, eq-eqb, lt-ltb, ne_eqb}
use Rattle.spv_base.proofs.Exports.{each_weaker, each_left, each_right}
use Rattle.std.specs.Prelude.{nat_lt, find, if◌then◌else◌}
use Rattle.std.specs.List.{AllByRecursion, Contains}
use Rattle.spv_base.specs.Order.{AreDistinct, Ascend}
use Rattle.spv_base.specs.declared.instructions.Inst.{Inst}
use Rattle.spv_types.specs.Constants.{is_constant}
use Rattle.spv_types.specs.Laws.{TypesComeFirst}
use Rattle.spv_ops.specs.declared.op.TheConstants.{FUNCTION}
use Rattle.spv_index.specs.Definitions.{before_functions, defining, has_result, is_id}

-- ---- each of some instructions

pub each_push : {X : Type 0} (P : X → Type 0) (xs : List X) (y : X) → AllByRecursion P xs → P y → AllByRecursion P (xs ++ y ∷ [])
each_push P [] y h last = (last, tt)
each_push P (x ∷ xs) y (first, rest) last = (first, each_push P xs y rest last)

-- ---- distinct ids

-- an instruction that has no result, or another one than an id
abbrev pub Differs : ℕ → Inst → Type 0
Differs id j = (j.id ≡ 0) ⊎ (j.id ≢ id)

differ_from : (id : ℕ) → (is : List Inst) → (id ≡ 0) ⊎ AllByRecursion (λ (later : Inst). later.id ≢ id) is → AllByRecursion (Differs id) is
differ_from id [] h = tt
differ_from id (j ∷ is) (inl none) = (by_id (cases_eq j.id 0), differ_from id is (inl none))
  where
    by_id : (j.id ≡ 0) ⊎ (j.id ≡ 0 → ⊥) → Differs id j
    by_id (inl zero_id) = inl zero_id
    by_id (inr apart) = inr (λ same. apart (same ∙ none))
differ_from id (j ∷ is) (inr (first, rest)) = (inr first, differ_from id is (inr rest))

-- from the instructions before one, and from those behind it
pub differ_before : (front later : List Inst) (i : Inst) → AreDistinct (front ++ i ∷ later) → AllByRecursion (Differs i.id) front
differ_before [] later i h = tt
differ_before (j ∷ front) later i (first, rest) = (by_first first, differ_before front later i rest)
  where
    by_first : (j.id ≡ 0) ⊎ AllByRecursion (λ (k : Inst). k.id ≢ j.id) (front ++ i ∷ later) → Differs i.id j
    by_first (inl none) = inl none
    by_first (inr others) = let own = each_right (λ (k : Inst). k.id ≢ j.id) front (i ∷ later) others in inr (λ same. own.0 (sym same))

pub differ_behind : (front later : List Inst) (i : Inst) → AreDistinct (front ++ i ∷ later) → AllByRecursion (Differs i.id) later
differ_behind [] later i (first, rest) = differ_from i.id later first
differ_behind (j ∷ front) later i (first, rest) = differ_behind front later i rest

-- the first ones of distinct instructions are distinct
pub distinct_left : (xs ys : List Inst) → AreDistinct (xs ++ ys) → AreDistinct xs
distinct_left [] ys h = tt
distinct_left (x ∷ xs) ys (first, rest) = (by_first first, distinct_left xs ys rest)
  where
    by_first : (x.id ≡ 0) ⊎ AllByRecursion (λ (later : Inst). later.id ≢ x.id) (xs ++ ys) → (x.id ≡ 0) ⊎ AllByRecursion (λ (later : Inst). later.id ≢ x.id) xs
    by_first (inl none) = inl none
    by_first (inr others) = inr (each_left (λ (later : Inst). later.id ≢ x.id) xs ys others)

-- the instructions behind those among which an id is a result
pub differ_from_earlier : (front later : List Inst) (id : ℕ) → AreDistinct (front ++ later) → Contains (map (λ (j : Inst). j.id) front) id → AllByRecursion (Differs id) later
differ_from_earlier [] later id h (k, lt, is) = absurd (omega arith)
differ_from_earlier (j ∷ front) later id (first, rest) (zero, lt, is) = differ_from id later (by_first first)
  where
    by_first : (j.id ≡ 0) ⊎ AllByRecursion (λ (k : Inst). k.id ≢ j.id) (front ++ later) → (id ≡ 0) ⊎ AllByRecursion (λ (k : Inst). k.id ≢ id) later
    by_first (inl none) = inl (sym is ∙ none)
    by_first (inr others) = inr (each_weaker (λ (k : Inst). k.id ≢ j.id) (λ (k : Inst). k.id ≢ id) (λ k apart same. apart (same ∙ sym is)) later (each_right (λ (k : Inst). k.id ≢ j.id) front later others))
differ_from_earlier (j ∷ front) later id (first, rest) (suc k, lt, is) = differ_from_earlier front later id rest (k, omega arith, is)

-- ---- what defines an id

found_first : (front later : List Inst) (i : Inst) → 0 < i.id → AllByRecursion (Differs i.id) front → find (has_result i.id) (front ++ i ∷ later) ≡ Some i
found_first [] later i positive h = let own : eqb i.id i.id ≡ true = eq-eqb i.id i.id refl in rw own refl
found_first (j ∷ front) later i positive (first, rest) = let other : eqb j.id i.id ≡ false = ne_eqb j.id i.id (apart first) in rw other (found_first front later i positive rest)
  where
    apart : Differs i.id j → j.id ≡ i.id → ⊥
    apart (inl none) same = omega arith
    apart (inr differs) same = differs same

-- an instruction with an id of its own defines that id
pub defining_is : (front later : List Inst) (i : Inst) → 0 < i.id → i.id < 1048576 → AreDistinct (front ++ i ∷ later) → defining (front ++ i ∷ later) i.id ≡ Some i
unfolding defining
defining_is front later i positive bounded distinct =
    let low : nat_lt 0 i.id ≡ true = lt-ltb 0 i.id positive in
    let high : nat_lt i.id 1048576 ≡ true = lt-ltb i.id 1048576 bounded in
    rw (low, high) (found_first front later i positive (differ_before front later i distinct))

-- and what defines an id is found by it
pub found_of_defining : (insts : List Inst) (id : ℕ) (d : Inst) → defining insts id ≡ Some d → find (has_result id) insts ≡ Some d
unfolding defining
found_of_defining insts id d h = by_id (is_id id) h
  where
    by_id : (b : Bool) → (if b then find (has_result id) insts else None) ≡ Some d → find (has_result id) insts ≡ Some d
    by_id true e = e
    by_id false e = cc

-- ---- what is found before a word

found_word : (p : Inst → Bool) (from : ℕ) (is : List Inst) (d : Inst) → Ascend from is → find p is ≡ Some d → from ≤ d.word
found_word p from [] d ascend h = cc
found_word p from (i ∷ is) d (low, rest) h = by_test (p i) h (λ e. found_word p (suc i.word) is d rest e)
  where
    by_test : (b : Bool) → cond b (Some i) (find p is) ≡ Some d → (find p is ≡ Some d → suc i.word ≤ d.word) → from ≤ d.word
    by_test true e behind = let same : i ≡ d = cc in let words : i.word ≡ d.word = ap (λ (j : Inst). j.word) same in omega arith
    by_test false e behind = let later : suc i.word ≤ d.word = behind e in omega arith

-- one that is found before an instruction's word stands before that instruction
pub found_before : (p : Inst → Bool) (from : ℕ) (front later : List Inst) (i d : Inst) → Ascend from (front ++ i ∷ later) → find p (front ++ i ∷ later) ≡ Some d → d.word < i.word
    → (xs : List Inst) × (ys : List Inst) × (front ≡ xs ++ d ∷ ys)
found_before p from [] later i d (low, rest) h before = let own : i.word ≤ i.word = omega arith in let word : i.word ≤ d.word = found_word p i.word (i ∷ later) d (own, rest) h in absurd (omega arith)
found_before p from (j ∷ front) later i d (low, rest) h before = by_test (p j) h (λ e. found_before p (suc j.word) front later i d rest e before)
  where
    by_test : (b : Bool) → cond b (Some j) (find p (front ++ i ∷ later)) ≡ Some d → (find p (front ++ i ∷ later) ≡ Some d → (xs : List Inst) × (ys : List Inst) × (front ≡ xs ++ d ∷ ys))
        → (xs : List Inst) × (ys : List Inst) × (j ∷ front ≡ xs ++ d ∷ ys)
    by_test true e behind = let same : j ≡ d = cc in ([], front, ap (λ (k : Inst). k ∷ front) same)
    by_test false e behind = let place = behind e in (j ∷ place.0, place.1, ap (λ (xs : List Inst). j ∷ xs) place.2)

-- ---- the instructions before the functions

-- they are the first ones of a module
pub before_is_front : (insts : List Inst) → (tail : List Inst) × (insts ≡ before_functions insts ++ tail)
unfolding before_functions
before_is_front [] = ([], refl)
before_is_front (i ∷ is) = by_op (i.op == FUNCTION) (before_is_front is)
  where
    by_op : (b : Bool) → (tail : List Inst) × (is ≡ before_functions is ++ tail) → (tail : List Inst) × (i ∷ is ≡ (if b then [] else i ∷ before_functions is) ++ tail)
    by_op true rest = (i ∷ is, refl)
    by_op false rest = (rest.0, ap (λ (xs : List Inst). i ∷ xs) rest.1)

-- the type of a constant is the result of an instruction before it
pub type_comes_first : (before front later : List Inst) (i : Inst) → TypesComeFirst before (front ++ i ∷ later) → is_constant i.op ≡ true → Contains (map (λ (j : Inst). j.id) (before ++ front)) i.ty
type_comes_first before [] later i (first, rest) constant = rw append-nil (first constant)
type_comes_first before (j ∷ front) later i (first, rest) constant =
    let behind = type_comes_first (before ++ j ∷ []) front later i rest constant in
    rw append_assoc at behind
