-- A call takes what the function that it names returns (SPIR-V 1.6 section 3.42.9, OpFunctionCall).
use Rattle.std.proofs.Common.{◌≡◌, ◌∙◌, ℕ, zero, suc, ◌==◌, Bool, true, false, cond, List, [], ◌∷◌, Option, Some, None, drop, length, not, slice_get, refl, sym, ap, subst}
use Rattle.std.proofs.Math.Logic.{∥∥₁_elim}
use Rattle.std.proofs.Props.{props}
use Rattle.std.proofs.lemmas.Bool.{eq-eqb, eqb-true}
use Rattle.std.proofs.lemmas.List.Elements.{recursion_from_All}
use Rattle.std.specs.Coded.{codes}
use Rattle.std.specs.Prelude.{find, if◌then◌else◌}
use Rattle.std.specs.List.{AllByRecursion}
use Rattle.std.specs.Option.{option_and_then}
use Rattle.spv_base.specs.declared.instructions.Inst.{Inst}
use Rattle.spv_ops.specs.Grammar.{row_of}
use Rattle.spv_ops.specs.Module.{Decoded}
use Rattle.spv_ops.specs.Opcodes.{table}
use Rattle.spv_index.specs.Classes.{class_of, is_terminator}
use Rattle.spv_index.specs.Definitions.{at, before_functions, defining, has_result, is_id, result_type, type_in}
use Rattle.spv_index.specs.Operands.{id_operand}
use Rattle.spv_index.specs.Positions.{stands_of}
use Rattle.spv_sections.specs.Ids.{has_type, head_of, is_type_id}
use Rattle.spv_sections.specs.Laws.{IsInOrder}
use Rattle.spv_actions.specs.Below.spv_types.specs.declared.forms.Form.TheVariants.{Function}
use Rattle.spv_bodies.specs.Bodies.{KeepsBody, KeepsRule}
use Rattle.spv_bodies.specs.Calls.{KeepsCall, KeepsFunction, callee_form, form_by, function_form}
use Rattle.spv_bodies.specs.Places.{nowhere}
use Rattle.spv_bodies.specs.Rules.{atomic_rule, composite_rule, control_rule, memory_rule, other_rule, rule_of}
use Rattle.spv_bodies.specs.declared.rules.Rule.{Rule}
use Rattle.spv_bodies.specs.declared.rules.Rule.TheVariants.{Control}
use Rattle.spv_bodies.specs.declared.rules.ControlRule.TheVariants.{Call, Function as FunctionRule}
use Rattle.spv_valid.specs.Acceptance.{Accepted, IsAccepted, decoded_in}
use Rattle.spv_valid.specs.Validity.{IsValid}
use Rattle.spv_actions.specs.Below.spv_results.specs.Operands.{known}
use Rattle.spv_state.specs.Sound.{StandsIn}
use Rattle.spv_state.proofs.Exports.{IsKnown, Standing, at_standing, standing}
use Rattle.spv_sites.proofs.Exports.{IsKept, Runs, each_kept, runs_there}
use Rattle.spv_base.proofs.Exports.{each_at}

-- ---- the rule of a function

first_kept : (a : Accepted) (is : List Inst) (n : ℕ) (i : Inst) → AllByRecursion (IsKept (known a)) (drop (length (before_functions is)) is) → slice_get is n ≡ Some i → i.op ≡ 54 → IsKept (known a) i
unfolding before_functions
first_kept a [] n i kept here op = absurd (cc)
first_kept a (j ∷ is) n i kept here op = by_op (j.op == 54) refl n kept here (λ m rest there. first_kept a is m i rest there op)
  where
    by_op : (b : Bool) → (j.op == 54) ≡ b → (m : ℕ) → AllByRecursion (IsKept (known a)) (drop (length (if b then [] else j ∷ before_functions is)) (j ∷ is)) → slice_get (j ∷ is) m ≡ Some i
        → ((k : ℕ) → AllByRecursion (IsKept (known a)) (drop (length (before_functions is)) is) → slice_get is k ≡ Some i → IsKept (known a) i) → IsKept (known a) i
    by_op true e m all there rest = each_at (IsKept (known a)) (j ∷ is) m i all there
    by_op false e zero all there rest =
        let same : j ≡ i = cc in
        let test : (j.op == 54) ≡ true = eq-eqb j.op 54 (ap (λ (x : Inst). x.op) same ∙ op) in
        let clash : false ≡ true = sym e ∙ test in
        absurd (cc)
    by_op false e (suc m) all there rest = rest m all there

found_number : (id : ℕ) (is : List Inst) (i : Inst) → find (has_result id) is ≡ Some i → (n : ℕ) × (slice_get is n ≡ Some i)
found_number id [] i h = absurd (cc)
found_number id (j ∷ is) i h = by_id (j.id == id) h (found_number id is i)
  where
    by_id : (b : Bool) → cond b (Some j) (find (has_result id) is) ≡ Some i → (find (has_result id) is ≡ Some i → (n : ℕ) × (slice_get is n ≡ Some i)) → (n : ℕ) × (slice_get (j ∷ is) n ≡ Some i)
    by_id true g rest = (0, g)
    by_id false g rest = let there = rest g in (suc there.0, there.1)

defined_number : (is : List Inst) (id : ℕ) (i : Inst) → defining is id ≡ Some i → (n : ℕ) × (slice_get is n ≡ Some i)
unfolding defining
defined_number is id i h = by_id (is_id id) h
  where
    by_id : (b : Bool) → (if b then find (has_result id) is else None) ≡ Some i → (n : ℕ) × (slice_get is n ≡ Some i)
    by_id true g = found_number id is i g
    by_id false g = absurd (cc)

function_rule : rule_of 54 ≡ Control FunctionRule
unfolding memory_rule atomic_rule composite_rule control_rule other_rule
function_rule = refl

call_rule : rule_of 57 ≡ Control Call
unfolding memory_rule atomic_rule composite_rule control_rule other_rule
call_rule = refl

kept_rule : (a : Accepted) (i : Inst) (op : ℕ) (r : Rule) (kept : IsKept (known a) i) → i.op ≡ op → rule_of op ≡ r → KeepsRule (known a) kept.placed r
kept_rule a i op r kept is rule =
    let own : kept.placed.inst.op ≡ op = ap (λ (x : Inst). x.op) kept.same ∙ is in
    subst (KeepsRule (known a) kept.placed) (ap rule_of own ∙ rule) kept.keeps.1

-- ---- the type of a call

call_typed : has_type (head_of 57) ≡ true
unfolding head_of row_of table
call_typed = refl

typed_named : (decoded : Decoded) (i : Inst) → is_type_id decoded i ≡ true → i.op ≡ 57 → (i.ty == 0) ≡ false
typed_named decoded i h op = by_ty (i.ty == 0) refl
  where
    by_ty : (b : Bool) → (i.ty == 0) ≡ b → b ≡ false
    by_ty false e = refl
    by_ty true e =
        let without : not (has_type (head_of i.op)) ≡ true = rw e at h in
        let with_one : has_type (head_of i.op) ≡ true = ap (λ (n : ℕ). has_type (head_of n)) op ∙ call_typed in
        let clash : false ≡ true = rw with_one at without in
        absurd (cc)

module _ (a : Accepted) (accepted : IsAccepted a) (valid : IsValid a) (known_a : IsKnown a) (function pc called : ℕ) (c : Inst) (stands : StandsIn a function pc) (here : at a.insts pc ≡ Some c) (op : c.op ≡ 57) (names : id_operand c 0 ≡ Some called) where
  runs : Runs a c
  runs = runs_there a accepted valid function pc stands.stand c stands.among stands.here stands.stops here

  s : Standing a function pc
  s = standing a function pc stands

  typed : (c.ty == 0) ≡ false
  typed =
      let order : IsInOrder (decoded_in a) s.stand = each_at (IsInOrder (decoded_in a)) (stands_of a.insts) s.one.number s.stand valid.ids s.one.is in
      let same : s.stand.inst ≡ c = let own = at_standing a function pc known_a s in cc in
      typed_named (decoded_in a) c (subst (λ (i : Inst). is_type_id (decoded_in a) i ≡ true) same order.has_type) op

  keeps : KeepsCall (known a) c
  keeps = subst (KeepsCall (known a)) runs.kept.same (kept_rule a c 57 (Control Call) runs.kept op call_rule)

  returned_type : result_type a.insts called ≡ Some c.ty
  returned_type =
      let rule = keeps in
      let form : callee_form (known a) called ≡ Some (Function c.ty rule.0) = ap (option_and_then (callee_form (known a))) (sym names) ∙ rule.1 in
      by_defined (defining a.insts called) refl form
    where
      by_function : (f : Inst) (ps : List ℕ) → defining a.insts called ≡ Some f → f.op ≡ 54 → function_form (known a) f ≡ Some (Function c.ty ps) → f.ty ≡ c.ty
      by_function f ps is of form =
          let number = defined_number a.insts called f is in
          let kept : IsKept (known a) f
          = first_kept a a.insts number.0 f (each_kept (known a) nowhere (drop (length (before_functions a.insts)) a.insts) (recursion_from_All (KeepsBody (known a)) _ valid.rules)) number.1 of in
          let own : KeepsFunction (known a) kept.placed.inst kept.placed.rest = kept_rule a f 54 (Control FunctionRule) kept of function_rule in
          let it : function_form (known a) f ≡ Some (Function f.ty own.0) = subst (λ (i : Inst). function_form (known a) i ≡ Some (Function i.ty own.0)) kept.same own.1 in
          cc

      by_op : (f : Inst) (ps : List ℕ) (b : Bool) → (f.op == 54) ≡ b → defining a.insts called ≡ Some f → (if b then function_form (known a) f else None) ≡ Some (Function c.ty ps) → f.ty ≡ c.ty
      by_op f ps true e is g = by_function f ps is (eqb-true f.op 54 e) g
      by_op f ps false e is g = absurd (cc)

      by_defined : (o : Option Inst) → defining a.insts called ≡ o → option_and_then (form_by (known a)) o ≡ Some (Function c.ty keeps.0) → result_type a.insts called ≡ Some c.ty
      by_defined None is g = absurd (cc)
      by_defined (Some f) is g =
          let ty : f.ty ≡ c.ty = by_op f keeps.0 (f.op == 54) refl is g in
          let test : (f.ty == 0) ≡ false = ap (λ (n : ℕ). n == 0) ty ∙ typed in
          ap (option_and_then type_in) is ∙ rw test (ap (λ (n : ℕ). Some n) ty)

-- ---- the same of what is known to be there

pub call_to : (a : Accepted) (function pc called : ℕ) (c : Inst) → ∥ IsAccepted a ∥₁ → ∥ IsValid a ∥₁ → IsKnown a → StandsIn a function pc → at a.insts pc ≡ Some c → c.op ≡ 57 → id_operand c 0 ≡ Some called
    → result_type a.insts called ≡ Some c.ty
call_to a function pc called c accepted valid known_a stands here op names =
    ∥∥₁_elim accepted (hlevel (props, codes)) (λ (is : IsAccepted a).
    ∥∥₁_elim valid (hlevel (props, codes)) (λ (v : IsValid a). returned_type a is v known_a function pc called c stands here op names))

pub call_goes : (sets : List (ℕ × Bool)) (d : Inst) → d.op ≡ 57 → is_terminator (class_of sets d) ≡ false
call_goes sets d op = rw op refl
