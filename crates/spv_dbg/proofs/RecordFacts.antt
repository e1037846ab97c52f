-- What an accepted module gives to its debug instructions: each has an id that no other instruction has, and its tables of constants and strings
-- hold what its instructions say.
use Rattle.std.proofs.Common.{◌≡◌, ◌≢◌, ◌⊎◌, ◌∙◌, inl, inr, ℕ, zero, suc, ◌+◌, ◌<◌, ◌≤◌, ◌==◌, ◌&&◌, Bool, true, false, cond, List, [], ◌∷◌, ◌++◌, Option, Some, None, slice_get, refl, sym, ap, arith}
use Rattle.std.specs.Prelude.{find, nat_lt}
use Rattle.std.specs.List.{AllByRecursion, flat_map}
use Rattle.std.specs.Option.{option_and_then, option_map_or}
use Rattle.std.proofs.lemmas.Bool.{and_from, and_parts, both_ways, cases_eq, eq-eqb, eqb-true, lt-ltb, ltb-true, ne_eqb, not-true}
use Rattle.spv_base.proofs.Exports.{each_at, each_weaker, guarded, mapped_from, reads_each}
use Rattle.spv_base.specs.Entries.{reads}
use Rattle.spv_base.specs.Order.{AreDistinct}
use Rattle.spv_base.specs.declared.instructions.Inst.{Inst}
use Rattle.spv_base.specs.declared.values.Root.{Root}
use Rattle.spv_ops.specs.Grammar.{row_of}
use Rattle.spv_ops.specs.Opcodes.{table}
use Rattle.spv_ops.specs.Module.{Decoded}
use Rattle.spv_index.proofs.Exports.{led}
use Rattle.spv_index.specs.Definitions.{defining, has_result, is_id, number_from, number_of}
use Rattle.spv_index.specs.DebugSet.{names_set, set_number}
use Rattle.spv_index.specs.Operands.{literal_operand}
use Rattle.spv_index.specs.Positions.{Stand}
use Rattle.spv_sections.specs.Definitions.{is_id as is_below}
use Rattle.spv_sections.specs.Ids.{has_result as is_with_result, head_of, is_result}
use Rattle.spv_sections.specs.Laws.{IsInOrder}
use Rattle.spv_consts.specs.Laws.{HaveShapes, IsConstantOf}
use Rattle.spv_consts.specs.Table.{Row}
use Rattle.spv_valid.specs.Acceptance.{Accepted}
use Rattle.spv_dbg.specs.declared.constants.Constant.{Constant}
use Rattle.spv_dbg.specs.Literals.{literal_of, number_of_row, string_of, text_in}
use Rattle.spv_dbg.specs.Tables.{constant_in, constants_of, strings_of}

-- ---- ids

own_from : (n : ℕ) (insts : List Inst) (j : ℕ) (i : Inst) → AreDistinct insts → i.id ≢ 0 → slice_get insts j ≡ Some i → number_from n (has_result i.id) insts ≡ Some (n + j)
own_from n [] j i distinct some at = absurd (cc)
own_from n (x ∷ xs) zero i distinct some at =
    let same : x ≡ i = cc in
    let yes : (x.id == i.id) ≡ true = eq-eqb x.id i.id (ap (λ (y : Inst). y.id) same) in
    let none : n + 0 ≡ n = omega arith in
    rw (yes, none) refl
own_from n (x ∷ xs) (suc j) i distinct some at =
    let nope : (x.id == i.id) ≡ false = ne_eqb x.id i.id (apart distinct.0) in
    let more : suc n + j ≡ n + suc j = omega arith in
    rw nope (own_from (suc n) xs j i distinct.1 some at ∙ ap (λ (k : ℕ). Some k) more)
  where
    apart : (x.id ≡ 0) ⊎ AllByRecursion (λ (later : Inst). later.id ≢ x.id) xs → x.id ≡ i.id → ⊥
    apart (inl none) e = some (sym e ∙ none)
    apart (inr all) e = each_at (λ (later : Inst). later.id ≢ x.id) xs j i all at (sym e)

-- the number of an instruction whose id is one
pub own_number : (insts : List Inst) (j : ℕ) (i : Inst) → AreDistinct insts → is_id i.id ≡ true → slice_get insts j ≡ Some i → number_of insts i.id ≡ Some j
unfolding number_of
own_number insts j i distinct is at =
    let some : 0 < i.id = ltb-true 0 i.id (and_parts (nat_lt 0 i.id) (nat_lt i.id 1048576) is).0 in
    let apart : i.id ≢ 0 = (λ e. absurd (omega arith)) in
    let none : 0 + j ≡ j = omega arith in
    rw is (own_from 0 insts j i distinct apart at ∙ ap (λ (k : ℕ). Some k) none)

passes_found : (p : Inst → Bool) (insts : List Inst) (i : Inst) → find p insts ≡ Some i → p i ≡ true
passes_found p [] i e = absurd (cc)
passes_found p (x ∷ xs) i e = by_test (p x) refl (passes_found p xs i) e
  where
    by_test : (b : Bool) → p x ≡ b → (find p xs ≡ Some i → p i ≡ true) → cond b (Some x) (find p xs) ≡ Some i → p i ≡ true
    by_test true t more e = let same : x ≡ i = cc in rw (← same) t
    by_test false t more e = more e

numbered : (insts : List Inst) (id j : ℕ) → number_of insts id ≡ Some j → (is_id id ≡ true) × (number_from 0 (has_result id) insts ≡ Some j)
unfolding number_of
numbered insts id j e = guarded (is_id id) (number_from 0 (has_result id) insts) j e

-- the instruction with the number of an id has this id
pub number_has_id : (insts : List Inst) (id j : ℕ) (i : Inst) → number_of insts id ≡ Some j → slice_get insts j ≡ Some i → i.id ≡ id
number_has_id insts id j i e at =
    let number = numbered insts id j e in
    let found : find (has_result id) insts ≡ Some i = sym (led (has_result id) insts (Some j) (sym number.1)) ∙ at in
    eqb-true i.id id (passes_found (has_result id) insts i found)

-- and it defines the id
pub number_defines : (insts : List Inst) (id j : ℕ) (i : Inst) → number_of insts id ≡ Some j → slice_get insts j ≡ Some i → defining insts id ≡ Some i
unfolding defining
number_defines insts id j i e at =
    let number = numbered insts id j e in
    rw number.0 (sym (led (has_result id) insts (Some j) (sym number.1)) ∙ at)

defines : (insts : List Inst) (id : ℕ) (i : Inst) → defining insts id ≡ Some i → find (has_result id) insts ≡ Some i
unfolding defining
defines insts id i e = (guarded (is_id id) (find (has_result id) insts) i e).1

-- ---- an instruction of the set has an id

-- OpExtInst (12) has a result
has_result_there : is_with_result (head_of 12) ≡ true
unfolding head_of row_of table
has_result_there = refl

set_has_result : (insts : List Inst) (i : Inst) (number : ℕ) → set_number insts i ≡ Some number → is_with_result (head_of i.op) ≡ true
unfolding set_number
set_has_result insts i number e =
    let test = (guarded (i.op == 12 && names_set insts i) (literal_operand i 1) number e).0 in
    let op : i.op ≡ 12 = eqb-true i.op 12 (and_parts (i.op == 12) (names_set insts i) test).0 in
    ap (λ (n : ℕ). is_with_result (head_of n)) op ∙ has_result_there

below_limit : (bound id : ℕ) → bound ≤ 1048576 → is_below bound id ≡ true → is_id id ≡ true
below_limit bound id le h =
    let parts = and_parts (nat_lt 0 id) (nat_lt id bound) h in
    let high : id < bound = ltb-true id bound parts.1 in
    let under : id < 1048576 = omega arith in
    and_from (nat_lt 0 id) (nat_lt id 1048576) parts.0 (lt-ltb id 1048576 under)

-- an instruction of the set has an id
abbrev pub HasId : Accepted → Stand → Type 0
HasId m s = (number : ℕ) → set_number m.insts s.inst ≡ Some number → is_id s.inst.id ≡ true

result_is_id : (decoded : Decoded) (i : Inst) → decoded.bound ≤ 1048576 → is_result decoded i ≡ true → is_with_result (head_of i.op) ≡ true → is_id i.id ≡ true
result_is_id decoded i le result head = by_id (i.id == 0) refl result
  where
    by_id : (b : Bool) → (i.id == 0) ≡ b → is_result decoded i ≡ true → is_id i.id ≡ true
    by_id true t h = let none = rw t at h in absurd (both_ways (is_with_result (head_of i.op)) (not-true (is_with_result (head_of i.op)) none) head)
    by_id false t h = let some = rw t at h in below_limit decoded.bound i.id le (and_parts _ _ some).0

pub have_ids : (m : Accepted) (decoded : Decoded) → decoded.bound ≤ 1048576 → (stood : List Stand) → AllByRecursion (IsInOrder decoded) stood → AllByRecursion (HasId m) stood
have_ids m decoded le stood order =
    each_weaker (IsInOrder decoded) (HasId m) (λ s is number e. result_is_id decoded s.inst le is.result (set_has_result m.insts s.inst number e)) stood order

-- ---- what instructions give under their ids

module _ {Y X : Type 0} (given : Y → X) (f : Inst → Option Y) where
  abbrev under : Inst → List (ℕ × X)
  under i = option_map_or (λ (y : Y). (i.id, given y) ∷ []) (f i) []

  other : (id : ℕ) (i : Inst) (rest : List (ℕ × X)) → i.id ≢ id → reads id (under i ++ rest) ≡ reads id rest
  other id i rest apart = by_given (f i)
    where
      by_given : (o : Option Y) → reads id (option_map_or (λ (y : Y). (i.id, given y) ∷ []) o [] ++ rest) ≡ reads id rest
      by_given None = refl
      by_given (Some y) = rw (ne_eqb i.id id apart) refl

  given_under : (insts : List Inst) (id : ℕ) (i : Inst) (y : Y) → find (has_result id) insts ≡ Some i → f i ≡ Some y → reads id (flat_map under insts) ≡ Some (given y)
  given_under [] id i y e g = absurd (cc)
  given_under (x ∷ xs) id i y e g = by_test (x.id == id) refl (λ more. given_under xs id i y more g) e
    where
      by_test : (b : Bool) → (x.id == id) ≡ b → (find (has_result id) xs ≡ Some i → reads id (flat_map under xs) ≡ Some (given y))
          → cond b (Some x) (find (has_result id) xs) ≡ Some i → reads id (under x ++ flat_map under xs) ≡ Some (given y)
      by_test true t more e =
          let same : x ≡ i = cc in
          let here : f x ≡ Some y = ap f same ∙ g in
          rw (here, t) refl
      by_test false t more e = other id x (flat_map under xs) (λ s. both_ways (x.id == id) t (eq-eqb x.id id s)) ∙ more e

  nothing_under : (insts : List Inst) (id : ℕ) → ((i : Inst) → i.id ≡ id → f i ≡ None) → reads id (flat_map under insts) ≡ None
  nothing_under [] id none = refl
  nothing_under (x ∷ xs) id none = by_id (nothing_under xs id none) (cases_eq x.id id)
    where
      by_id : reads id (flat_map under xs) ≡ None → (x.id ≡ id) ⊎ (x.id ≡ id → ⊥) → reads id (under x ++ flat_map under xs) ≡ None
      by_id more (inl same) = rw (none x same) more
      by_id more (inr apart) = other id x (flat_map under xs) apart ∙ more

pub text_under : (insts : List Inst) (id : ℕ) (text : List ℕ) → string_of insts id ≡ Some text → reads id (strings_of insts) ≡ Some text
unfolding string_of
text_under insts id text e = by_inst (defining insts id) refl e
  where
    by_inst : (o : Option Inst) → defining insts id ≡ o → option_and_then text_in o ≡ Some text → reads id (strings_of insts) ≡ Some text
    by_inst None d e = absurd (cc)
    by_inst (Some i) d e = given_under (λ (bytes : List ℕ). bytes) text_in insts id i text (defines insts id i d) e

-- each constant is one of an instruction
constant_defined : (m : Accepted) (roots : Root → Option ℕ) (id : ℕ) (row : Row) → HaveShapes m.types m.insts roots m.constants → reads id m.constants ≡ Some row
    → (i : Inst) × (defining m.insts id ≡ Some i)
constant_defined m roots id row shapes e =
    let is = reads_each (λ (k : ℕ) (r : Row). IsConstantOf m.types m.insts roots (k, r)) id row m.constants shapes e in
    let from = mapped_from (λ (i : Inst). i.ty) (defining m.insts id) row.ty is.ty in
    (from.0, from.1)

abbrev row_at : Accepted → Inst → Option Row
row_at m i = reads i.id m.constants

pub literal_under : (m : Accepted) (roots : Root → Option ℕ) (id : ℕ) → HaveShapes m.types m.insts roots m.constants
    → option_and_then (λ (c : Constant). c.number) (reads id (constants_of m)) ≡ literal_of m id
unfolding literal_of
literal_under m roots id shapes = by_row (reads id m.constants) refl
  where
    by_row : (o : Option Row) → reads id m.constants ≡ o → option_and_then (λ (c : Constant). c.number) (reads id (constants_of m)) ≡ option_and_then (number_of_row m.types) o
    by_row None e =
        ap (option_and_then (λ (c : Constant). c.number)) (nothing_under (constant_in m) (row_at m) m.insts id (λ i same. ap (λ (k : ℕ). reads k m.constants) same ∙ e))
    by_row (Some row) e =
        let defined = constant_defined m roots id row shapes e in
        let found : find (has_result id) m.insts ≡ Some defined.0 = defines m.insts id defined.0 defined.1 in
        let same : defined.0.id ≡ id = eqb-true defined.0.id id (passes_found (has_result id) m.insts defined.0 found) in
        ap (option_and_then (λ (c : Constant). c.number)) (given_under (constant_in m) (row_at m) m.insts id defined.0 row found (ap (λ (k : ℕ). reads k m.constants) same ∙ e))
