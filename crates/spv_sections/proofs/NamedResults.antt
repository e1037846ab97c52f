-- What modules give whose ids are in order.
use Rattle.std.proofs.Common.{◌≡◌, ◌≢◌, ◌⊎◌, inl, inr, ℕ, ◌<◌, ◌≤◌, ◌==◌, Bool, true, false, cond, List, [], Option, Some, Ok, refl, arith}
use Rattle.std.proofs.lemmas.Bool.{and_from, and_parts, both_ways, cases_eq, eqb-true, lt-ltb, ltb-true, not-true, or_cases}
use Rattle.std.specs.Prelude.{nat_lt, ◌||◌}
use Rattle.std.specs.List.{AllByRecursion, find}
use Rattle.std.specs.Option.{is_some}
use Rattle.spv_base.proofs.Exports.{both_each, each_weaker}
use Rattle.spv_base.specs.declared.instructions.Inst.{Inst}
use Rattle.spv_ops.specs.Module.{Decoded, IsDecoded}
use Rattle.spv_index.specs.Classes.{sets_of}
use Rattle.spv_index.specs.Positions.{outside}
use Rattle.spv_index.specs.Definitions.{defining, has_result as is_result_of, is_id as is_limited}
use Rattle.spv_ops.specs.Grammar.{row_of}
use Rattle.spv_ops.specs.Opcodes.{table}
use Rattle.spv_types.specs.InterfaceBlocks.{nothing}
use Rattle.spv_types.specs.Constants.{is_constant}
use Rattle.spv_types.specs.Laws.{AreNamed, HasResult}
use Rattle.spv_types.specs.Typing.{defined_form}
use Rattle.spv_types.specs.declared.forms.Form.{Form}
use Rattle.spv_sections.specs.Definitions.{is_id}
use Rattle.spv_sections.specs.Ids.{has_result, head_of, ids_of, is_result}
use Rattle.spv_sections.proofs.InOrder.{in_order}
use Rattle.spv_sections.proofs.Results.{all_found, distinct, has_id, results_in}
use Rattle.spv_sections.proofs.TypesFirst.{constant_has_type, typed_has_result, types_first}

-- ---- the opcodes of types

one_more : (op n : ℕ) (f o : Option Form) → has_result (head_of n) ≡ true → (is_some o ≡ true → has_result (head_of op) ≡ true)
    → is_some (cond (op == n) f o) ≡ true → has_result (head_of op) ≡ true
one_more op n f o here behind h = by_test (op == n) refl h
  where
    by_test : (b : Bool) → (op == n) ≡ b → is_some (cond b f o) ≡ true → has_result (head_of op) ≡ true
    by_test true t e = rw (eqb-true op n t) here
    by_test false t e = behind e

type_has_result : (all : List Inst) (i : Inst) → is_some (defined_form all i) ≡ true → has_result (head_of i.op) ≡ true
unfolding defined_form head_of row_of table
type_has_result all i h =
    one_more i.op 19 _ _ refl (one_more i.op 20 _ _ refl (one_more i.op 21 _ _ refl (one_more i.op 23 _ _ refl (one_more i.op 28 _ _ refl
    (one_more i.op 29 _ _ refl (one_more i.op 30 _ _ refl (one_more i.op 32 _ _ refl (one_more i.op 33 _ _ refl (λ none. absurd (cc)))))))))) h

defines : (all : List Inst) (i : Inst) → (is_some (defined_form all i) || is_constant i.op) ≡ true → has_result (head_of i.op) ≡ true
defines all i h = by_case (or_cases (is_some (defined_form all i)) (is_constant i.op) h)
  where
    by_case : (is_some (defined_form all i) ≡ true) ⊎ (is_constant i.op ≡ true) → has_result (head_of i.op) ≡ true
    by_case (inl type) = type_has_result all i type
    by_case (inr constant) = typed_has_result (head_of i.op) (constant_has_type i.op constant)

-- ---- results

id_of : (decoded : Decoded) (i : Inst) → is_result decoded i ≡ true → has_result (head_of i.op) ≡ true → is_id decoded.bound i.id ≡ true
id_of decoded i result head = by_id (cases_eq i.id 0)
  where
    by_id : (i.id ≡ 0) ⊎ (i.id ≡ 0 → ⊥) → is_id decoded.bound i.id ≡ true
    by_id (inl none) = absurd (both_ways (has_result (head_of i.op)) (not-true (has_result (head_of i.op)) (rw none at result)) head)
    by_id (inr some) = (has_id decoded i result some).0

limited : (bound limit id : ℕ) → bound ≤ limit → is_id bound id ≡ true → (0 < id) × (id < limit)
limited bound limit id le h =
    let parts = and_parts (nat_lt 0 id) (nat_lt id bound) h in
    let low : 0 < id = ltb-true 0 id parts.0 in
    let high : id < bound = ltb-true id bound parts.1 in
    let under : id < limit = omega arith in
    (low, under)

has_results : (decoded : Decoded) (all : List Inst) (i : Inst) → decoded.bound ≤ 1048576 → is_result decoded i ≡ true → HasResult all i
has_results decoded all i limit result = λ defined. limited decoded.bound 1048576 i.id limit (id_of decoded i result (defines all i defined))

pub named : (decoded : Decoded) → IsDecoded decoded → ids_of decoded ≡ Ok nothing → AreNamed decoded.insts
named decoded is passed =
    let insts = decoded.insts in
    let order = in_order decoded passed in
    let results = results_in decoded (sets_of insts) outside insts order in
    record {
      distinct = distinct decoded is.ascend results;
      results = each_weaker (λ (i : Inst). is_result decoded i ≡ true) (HasResult insts) (λ i. has_results decoded insts i is.limit) insts results;
      types_first = types_first decoded (sets_of insts) outside 0 [] insts refl is.ascend refl order;
    }

-- ---- the instructions that define them

is_one : (decoded : Decoded) (i : Inst) → decoded.bound ≤ 1048576 → is_result decoded i ≡ true → i.id ≢ 0 → is_limited i.id ≡ true
is_one decoded i limit result some =
    let parts = limited decoded.bound 1048576 i.id limit (has_id decoded i result some).0 in
    and_from (nat_lt 0 i.id) (nat_lt i.id 1048576) (lt-ltb 0 i.id parts.0) (lt-ltb i.id 1048576 parts.1)

found_defines : (decoded : Decoded) (insts : List Inst) (i : Inst) → decoded.bound ≤ 1048576 → is_result decoded i ≡ true → (i.id ≡ 0) ⊎ (find (is_result_of i.id) insts ≡ Some i)
    → (i.id ≡ 0) ⊎ (defining insts i.id ≡ Some i)
unfolding defining
found_defines decoded insts i limit result (inl none) = inl none
found_defines decoded insts i limit result (inr found) = by_id (cases_eq i.id 0)
  where
    by_id : (i.id ≡ 0) ⊎ (i.id ≡ 0 → ⊥) → (i.id ≡ 0) ⊎ (defining insts i.id ≡ Some i)
    by_id (inl none) = inl none
    by_id (inr some) = inr (rw (is_one decoded i limit result some) found)

pub defined_once : (decoded : Decoded) → IsDecoded decoded → ids_of decoded ≡ Ok nothing
    → AllByRecursion (λ (i : Inst). (i.id ≡ 0) ⊎ (defining decoded.insts i.id ≡ Some i)) decoded.insts
defined_once decoded is passed =
    let insts = decoded.insts in
    let results = results_in decoded (sets_of insts) outside insts (in_order decoded passed) in
    both_each (λ (i : Inst). is_result decoded i ≡ true) (λ (i : Inst). (i.id ≡ 0) ⊎ (find (is_result_of i.id) insts ≡ Some i))
    (λ (i : Inst). (i.id ≡ 0) ⊎ (defining insts i.id ≡ Some i)) (λ i. found_defines decoded insts i is.limit) insts results
    (all_found insts (distinct decoded is.ascend results))
