-- What the id of a register stands for: the result of the instruction that it comes from.
use Rattle.std.proofs.Common.{◌≡◌, ◌≢◌, ◌⊎◌, ◌∙◌, inl, inr, ℕ, ◌<◌, ◌≤◌, ◌==◌, ◌&&◌, Bool, true, false, List, Option, Some, None, map, slice_get, unwrap_or, refl, sym, ap, subst, arith}
use Rattle.std.proofs.lemmas.Bool.{and_from, and_parts, eq-eqb, eqb-true, lt-ltb, ltb-true, ne_eqb, not-true, or_cases}
use Rattle.std.proofs.Math.Logic.{∥∥₁_elim}
use Rattle.std.proofs.Props.{props}
use Rattle.std.specs.Coded.{codes}
use Rattle.std.specs.Prelude.{nat_lt, not}
use Rattle.std.specs.Option.{is_some, option_and_then, option_map}
use Rattle.spv_base.specs.Entries.{reads}
use Rattle.spv_base.specs.declared.instructions.Inst.{Inst}
use Rattle.spv_index.specs.Classes.{sets_of}
use Rattle.spv_index.specs.Definitions.{defining, has_result as results_in, is_id, result_type, type_in}
use Rattle.spv_index.specs.Positions.{Stand, in_function, outside, stand_of, stands_of}
use Rattle.spv_types.specs.Cells.{cells_of}
use Rattle.spv_types.specs.Queries.{is_pointer, is_void}
use Rattle.spv_types.specs.Types.{Types, form_of}
use Rattle.spv_valid.specs.Below.spv_sections.specs.Definitions.{is_id as is_id_below}
use Rattle.spv_valid.specs.Below.spv_sections.specs.Laws.{IsInOrder}
use Rattle.spv_valid.specs.Acceptance.{Accepted, IsAccepted, decoded_in}
use Rattle.spv_valid.specs.Meanings.{inside_meanings, meaning_at, meaning_of}
use Rattle.spv_valid.specs.Validity.{IsValid}
use Rattle.spv_valid.specs.declared.meanings.Meaning.TheVariants.{Register as Registered}
use Rattle.spv_frame.specs.Registers.{ids, number_of}
use Rattle.spv_plans.specs.Members.{members}
use Rattle.spv_plans.specs.Plans.{plan_of}
use Rattle.spv_plans.specs.Registered.{HasPointerType, HasValueType}
use Rattle.spv_plans.specs.Registers.{has_cells, has_pointer, has_result, has_value, is_parameter, is_register}
use Rattle.spv_plans.proofs.ApartLemmas.{insts_of_stands}
use Rattle.spv_plans.proofs.ComesLemmas.{Comes, distinct_stands, place, pointer_comes, same_stand, value_comes}
use Rattle.spv_plans.proofs.NumberLemmas.{First, first_there, map_at, map_from, number_gets}
use Rattle.spv_plans.proofs.PlanLemmas.{result_typed}
use Rattle.spv_base.proofs.Exports.{each_at}

-- ---- the instruction that defines an id

below_bound : (bound id : ℕ) → bound ≤ 1048576 → is_id_below bound id ≡ true → is_id id ≡ true
below_bound bound id limit h =
    let parts = and_parts (nat_lt 0 id) (nat_lt id bound) h in
    let below : id < bound = ltb-true id bound parts.1 in
    let less : id < 1048576 = omega arith in
    and_from (nat_lt 0 id) (nat_lt id 1048576) parts.0 (lt-ltb id 1048576 less)

result_named : (a : Accepted) (s : Stand) → IsInOrder (decoded_in a) s → s.inst.id ≢ 0 → is_id_below a.bound s.inst.id ≡ true
result_named a s order named =
    let test : (s.inst.id == 0) ≡ false = ne_eqb s.inst.id 0 named in
    let result = rw test at order.result in
    (and_parts (is_id_below a.bound s.inst.id) _ result).0

named : (a : Accepted) (test : Inst → Bool) (f id : ℕ) → IsValid a → Comes a test f id → is_id_below a.bound id ≡ true
named a test f id v c =
    let here = place a test f id c in
    let order : IsInOrder (decoded_in a) c.stand = each_at (IsInOrder (decoded_in a)) (stands_of a.insts) here.number c.stand v.ids here.at in
    subst (λ (k : ℕ). is_id_below a.bound k ≡ true) c.is (result_named a c.stand order here.named)

-- the first instruction with the id is the one that the register comes from
stand_is : (a : Accepted) (test : Inst → Bool) (f id : ℕ) → IsAccepted a → IsValid a → (c : Comes a test f id) → stand_of a.insts id ≡ Some c.stand
unfolding stand_of
stand_is a test f id is v c =
    let ss : List Stand = stands_of a.insts in
    let here = place a test f id c in
    let limited : is_id id ≡ true = below_bound a.bound id is.decoded.limit (named a test f id v c) in
    let first : First (λ (s : Stand). results_in id s.inst) ss = first_there (λ (s : Stand). results_in id s.inst) ss here.number c.stand here.at (eq-eqb c.stand.inst.id id c.is) in
    let own : first.element.inst.id ≡ id = eqb-true first.element.inst.id id first.passes in
    let same : c.stand ≡ first.element = same_stand ss (distinct_stands a v) here.number first.number c.stand first.element here.at first.at (c.is ∙ sym own) here.named in
    rw limited (first.found ∙ ap Some (sym same))

defined : (a : Accepted) (test : Inst → Bool) (f id : ℕ) → IsAccepted a → IsValid a → (c : Comes a test f id) → defining a.insts id ≡ Some c.stand.inst
unfolding defining
defined a test f id is v c =
    let ss : List Stand = stands_of a.insts in
    let here = place a test f id c in
    let limited : is_id id ≡ true = below_bound a.bound id is.decoded.limit (named a test f id v c) in
    let all : map (λ (s : Stand). s.inst) ss ≡ a.insts = insts_of_stands (sets_of a.insts) outside a.insts in
    let there : slice_get a.insts here.number ≡ Some c.stand.inst
    = sym (ap (λ (is : List Inst). slice_get is here.number) all) ∙ map_at (λ (s : Stand). s.inst) ss here.number c.stand here.at in
    let first : First (results_in id) a.insts = first_there (results_in id) a.insts here.number c.stand.inst there (eq-eqb c.stand.inst.id id c.is) in
    let stood = map_from (λ (s : Stand). s.inst) ss first.number first.element (ap (λ (is : List Inst). slice_get is first.number) all ∙ first.at) in
    let own : stood.0.inst.id ≡ id = ap (λ (i : Inst). i.id) stood.2 ∙ eqb-true first.element.id id first.passes in
    let same : c.stand ≡ stood.0 = same_stand ss (distinct_stands a v) here.number first.number c.stand stood.0 here.at stood.1 (c.is ∙ sym own) here.named in
    rw limited (first.found ∙ ap Some (sym stood.2 ∙ ap (λ (s : Stand). s.inst) (sym same)))

type_is : (a : Accepted) (test : Inst → Bool) (f id : ℕ) → IsAccepted a → IsValid a → (c : Comes a test f id) → result_type a.insts id ≡ Some c.stand.inst.ty
type_is a test f id is v c =
    let typed : (c.stand.inst.ty == 0) ≡ false = ne_eqb c.stand.inst.ty 0 (result_typed a.types c.stand.inst c.register) in
    let own : type_in c.stand.inst ≡ Some c.stand.inst.ty = rw typed refl in
    ap (option_and_then type_in) (defined a test f id is v c) ∙ own

-- ---- the types of registers

known : (o : Option ℕ) → is_some o ≡ true → o ≡ Some (unwrap_or o 0)
known None h = absurd (cc)
known (Some n) h = refl

module _
    (valid : (a : Accepted) → IsAccepted a → IsValid a)
    (a : Accepted)
    (accepted : ∥ IsAccepted a ∥₁)
    (f : ℕ)
    (cells : IsAccepted a → (j : ℕ) (s : Stand) → slice_get (members a.insts f) j ≡ Some s → is_register a.types s.inst ≡ true → is_some (cells_of a.types s.inst.ty) ≡ true)
  where
    pub value_typed : (id n : ℕ) → number_of id (ids (plan_of a f).values) ≡ Some n → HasValueType a (plan_of a f) id n
    value_typed id n h =
        let value = value_comes a f n id (number_gets id (ids (plan_of a f).values) n h) in
        let c = value.comes in
        let some : is_some (cells_of a.types c.stand.inst.ty) ≡ true = ∥∥₁_elim accepted (hlevel props) (λ (is : IsAccepted a). cells is c.number c.stand c.among c.register) in
        record {
          ty = c.stand.inst.ty;
          is = ∥∥₁_elim accepted (hlevel (props, codes)) (λ (is : IsAccepted a). type_is a (has_cells a.types) f id is (valid a is) c);
          len = unwrap_or (cells_of a.types c.stand.inst.ty) 0;
          at = value.at;
          cells = known (cells_of a.types c.stand.inst.ty) some;
          value = not-true (is_pointer (form_of a.types c.stand.inst.ty)) c.passes;
        }

module _ (valid : (a : Accepted) → IsAccepted a → IsValid a) (a : Accepted) (accepted : ∥ IsAccepted a ∥₁) (f : ℕ) where
  pub pointer_typed : (id n : ℕ) → number_of id (plan_of a f).pointers ≡ Some n → HasPointerType a id
  pointer_typed id n h =
      let c = pointer_comes a f n id (number_gets id (plan_of a f).pointers n h) in
      record {
        ty = c.stand.inst.ty;
        is = ∥∥₁_elim accepted (hlevel (props, codes)) (λ (is : IsAccepted a). type_is a (has_pointer a.types) f id is (valid a is) c);
        pointer = c.passes;
      }

-- ---- what an id means

-- a register is neither a variable nor a label
not_meant : (ts : Types) (i : Inst) → is_register ts i ≡ true → (i.op ≢ 59) × (i.op ≢ 248)
not_meant ts i h = by_kind (or_cases (is_parameter i) (has_value ts i) (and_parts (has_result i) _ h).1)
  where
    by_kind : (is_parameter i ≡ true) ⊎ (has_value ts i ≡ true) → (i.op ≢ 59) × (i.op ≢ 248)
    by_kind (inl parameter) = let op : i.op ≡ 55 = eqb-true i.op 55 parameter in (λ same. omega arith, λ same. omega arith)
    by_kind (inr value) =
        let parts = and_parts (not (is_void (form_of ts i.ty)) && not (i.op == 59)) (not (i.op == 248)) value in
        let variable : not (i.op == 59) ≡ true = (and_parts (not (is_void (form_of ts i.ty))) (not (i.op == 59)) parts.0).1 in (
          λ same. let test : (i.op == 59) ≡ true = eq-eqb i.op 59 same in let clash : false ≡ true = rw test at variable in cc,
          λ same. let test : (i.op == 248) ≡ true = eq-eqb i.op 248 same in let clash : false ≡ true = rw test at parts.1 in cc,
        )

meaning_is : (ts : Types) (f : ℕ) (s : Stand) → in_function s.position.stage ≡ true → s.position.function ≡ f → is_register ts s.inst ≡ true → meaning_at s ≡ Registered f
meaning_is ts f s inside function register =
    let others = not_meant ts s.inst register in
    let variable : (59 == s.inst.op) ≡ false = ne_eqb 59 s.inst.op (λ same. others.0 (sym same)) in
    let label : (248 == s.inst.op) ≡ false = ne_eqb 248 s.inst.op (λ same. others.1 (sym same)) in
    let own : unwrap_or (reads s.inst.op (inside_meanings s.position.function)) (Registered s.position.function) ≡ Registered s.position.function = rw (variable, label) refl in
    rw inside (own ∙ ap Registered function)

pub meant : (valid : (a : Accepted) → IsAccepted a → IsValid a) (a : Accepted) → ∥ IsAccepted a ∥₁ → (test : Inst → Bool) (f id : ℕ) → Comes a test f id → meaning_of a.insts id ≡ Some (Registered f)
meant valid a accepted test f id c = by_stand (stand_of a.insts id) refl
  where
    by_stand : (o : Option Stand) → stand_of a.insts id ≡ o → meaning_of a.insts id ≡ Some (Registered f)
    by_stand None e = absurd (∥∥₁_elim accepted (hlevel props) (λ (is : IsAccepted a). let clash : None ≡ Some c.stand = sym e ∙ stand_is a test f id is (valid a is) c in cc))
    by_stand (Some s) e =
        let same : IsAccepted a → c.stand ≡ s = λ (is : IsAccepted a). let both : Some c.stand ≡ Some s = sym (stand_is a test f id is (valid a is) c) ∙ e in cc in
        let here = place a test f id c in
        let within : in_function c.stand.position.stage ≡ true = (and_parts (in_function c.stand.position.stage) (c.stand.position.function == f) here.inside).0 in
        let inside : in_function s.position.stage ≡ true = ∥∥₁_elim accepted (hlevel props) (λ (is : IsAccepted a). subst (λ (t : Stand). in_function t.position.stage ≡ true) (same is) within) in
        let function : s.position.function ≡ f = ∥∥₁_elim accepted (hlevel (props, codes)) (λ (is : IsAccepted a). subst (λ (t : Stand). t.position.function ≡ f) (same is) here.function_is) in
        let register : is_register a.types s.inst ≡ true = ∥∥₁_elim accepted (hlevel props) (λ (is : IsAccepted a). subst (λ (t : Stand). is_register a.types t.inst ≡ true) (same is) c.register) in
        ap (option_map meaning_at) e ∙ ap Some (meaning_is a.types f s inside function register)
