-- The parameters of a function have the types that its function type names, in order.
use Rattle.std.proofs.Common.{◌≡◌, ◌≢◌, ◌⊎◌, ◌∙◌, inl, inr, ℕ, zero, suc, ◌+◌, ◌==◌, Bool, true, false, cond, List, [], ◌∷◌, ◌++◌, length, drop, Some, slice_get, refl, sym, ap, subst, arith}
use Rattle.std.proofs.lemmas.Bool.{both_ways, eq-eqb, eqb-true, ne_eqb}
use Rattle.std.specs.Prelude.{not}
use Rattle.std.specs.List.{AllByRecursion, filter, flat_map}
use Rattle.spv_base.specs.Order.{AreDistinct}
use Rattle.spv_base.specs.declared.instructions.Inst.{Inst}
use Rattle.spv_ops.specs.Grammar.{row_of}
use Rattle.spv_ops.specs.Module.{Decoded}
use Rattle.spv_ops.specs.Opcodes.{table}
use Rattle.spv_index.specs.declared.classes.Class.{Class}
use Rattle.spv_index.specs.declared.classes.Class.TheVariants.{Function as Beginning}
use Rattle.spv_index.specs.declared.positions.Position.{Position}
use Rattle.spv_index.specs.Classes.{class_of, sets_of}
use Rattle.spv_index.specs.Definitions.{before_functions}
use Rattle.spv_index.specs.Operands.{id_operand}
use Rattle.spv_index.specs.Positions.{Stand, begins, outside, position_after, stands, stands_of}
use Rattle.spv_types.specs.Types.{Types}
use Rattle.spv_sections.specs.Ids.{has_result as results, has_type as types, head_of, is_result, is_type_id}
use Rattle.spv_sections.specs.Laws.{IsInOrder}
use Rattle.spv_bodies.specs.Bodies.{KeepsBody, KeepsRule}
use Rattle.spv_bodies.specs.Calls.{KeepsParameter, parameter_type}
use Rattle.spv_bodies.specs.Context.{Known}
use Rattle.spv_bodies.specs.Places.{nowhere, place, placed_from, within_after}
use Rattle.spv_bodies.specs.Rules.{atomic_rule, composite_rule, control_rule, memory_rule, other_rule, rule_of}
use Rattle.spv_bodies.specs.declared.within.Within.{Within}
use Rattle.std.proofs.lemmas.List.Elements.{recursion_from_All}
use Rattle.spv_valid.specs.Acceptance.{Accepted, IsAccepted, decoded_in}
use Rattle.spv_valid.specs.Validity.{IsValid}
use Rattle.spv_plans.specs.Members.{is_within, leading, members, stands_in}
use Rattle.spv_plans.specs.Registers.{has_result, is_parameter, is_register, register_in, register_of, registers_of}
use Rattle.spv_plans.proofs.Exports.{insts_of_stands, each_inst, facts, function_named, result_here, each_drop}
use Rattle.spv_base.proofs.Exports.{each_weaker, drop_here}
use Rattle.spv_results.specs.Operands.{known}

-- ---- lists

-- no id comes twice
later_apart : (is : List Inst) (n : ℕ) (i : Inst) → AreDistinct is → slice_get is n ≡ Some i → i.id ≢ 0 → AllByRecursion (λ (j : Inst). j.id ≢ i.id) (drop (suc n) is)
later_apart [] n i distinct at named = absurd (cc)
later_apart (x ∷ is) zero i distinct at named =
    let same : x ≡ i = cc in
    subst (λ (y : Inst). AllByRecursion (λ (j : Inst). j.id ≢ y.id) is) same (by_id distinct.0 (λ (none : x.id ≡ 0). named (sym (ap (λ (y : Inst). y.id) same) ∙ none)))
  where
    by_id : (x.id ≡ 0) ⊎ AllByRecursion (λ (later : Inst). later.id ≢ x.id) is → (x.id ≡ 0 → ⊥) → AllByRecursion (λ (later : Inst). later.id ≢ x.id) is
    by_id (inl none) there = absurd (there none)
    by_id (inr all) there = all
later_apart (x ∷ is) (suc n) i distinct at named = later_apart is n i distinct.1 at named

-- ---- where the instructions from one on stand

pub record PlacedFrom (k : Known) (is : List Inst) : Type 0 where
  pub within : Within
  pub kept : AllByRecursion (KeepsBody k) (placed_from within is)

placed_on : (k : Known) (w : Within) (is : List Inst) (n : ℕ) → AllByRecursion (KeepsBody k) (placed_from w is) → PlacedFrom k (drop n is)
placed_on k w is zero kept = record { within = w; kept = kept }
placed_on k w [] (suc n) kept = record { within = w; kept = tt }
placed_on k w (i ∷ is) (suc n) kept = placed_on k (within_after w i) is n kept.1

pub from_function : (k : Known) (is : List Inst) (n : ℕ) (f : Inst) → slice_get is n ≡ Some f → f.op ≡ 54 → AllByRecursion (KeepsBody k) (placed_from nowhere (drop (length (before_functions is)) is))
    → PlacedFrom k (drop n is)
unfolding before_functions
from_function k [] n f at op kept = absurd (cc)
from_function k (x ∷ is) n f at op kept = by_op (x.op == 54) refl kept n at (λ j. from_function k is j f)
  where
    by_op : (b : Bool) → (x.op == 54) ≡ b → AllByRecursion (KeepsBody k) (placed_from nowhere (drop (length (cond b [] (x ∷ before_functions is))) (x ∷ is))) → (m : ℕ) → slice_get (x ∷ is) m ≡ Some f
        → ((j : ℕ) → slice_get is j ≡ Some f → f.op ≡ 54 → AllByRecursion (KeepsBody k) (placed_from nowhere (drop (length (before_functions is)) is)) → PlacedFrom k (drop j is)) → PlacedFrom k (drop m (x ∷ is))
    by_op true e h m g rest = placed_on k nowhere (x ∷ is) m h
    by_op false e h zero g rest = let same : x ≡ f = cc in absurd (both_ways (x.op == 54) e (eq-eqb x.op 54 (ap (λ (y : Inst). y.op) same ∙ op)))
    by_op false e h (suc j) g rest = rest j g op h

function_class : (sets : List (ℕ × Bool)) (i : Inst) → i.op ≡ 54 → class_of sets i ≡ Beginning
function_class sets i op = rw op refl

behind_function : (sets : List (ℕ × Bool)) (position : Position) (is : List Inst) (n : ℕ) (f : Inst) → slice_get is n ≡ Some f → f.op ≡ 54
    → drop (suc n) (stands sets position is) ≡ stands sets (begins f) (drop (suc n) is)
behind_function sets position [] n f at op = absurd (cc)
behind_function sets position (x ∷ is) zero f at op =
    let same : x ≡ f = cc in
    ap (λ (y : Inst). stands sets (position_after position (class_of sets y) y) is) same ∙ ap (λ (c : Class). stands sets (position_after position c f) is) (function_class sets f op)
behind_function sets position (x ∷ is) (suc n) f at op = behind_function sets (position_after position (class_of sets x) x) is n f at op

-- ---- an OpFunctionParameter (55) has a result and a type

parameter_results : results (head_of 55) ≡ true
unfolding head_of row_of table
parameter_results = refl

parameter_types : types (head_of 55) ≡ true
unfolding head_of row_of table
parameter_types = refl

abbrev HasResult : Inst → Type 0
HasResult i = i.op ≡ 55 → has_result i ≡ true

result_from : (decoded : Decoded) (i : Inst) → is_result decoded i ≡ true → is_type_id decoded i ≡ true → HasResult i
result_from decoded i result type op = by_id (i.id == 0) refl (i.ty == 0) refl
  where
    by_id : (b : Bool) → (i.id == 0) ≡ b → (c : Bool) → (i.ty == 0) ≡ c → has_result i ≡ true
    by_id true e c g =
        let without : not (results (head_of i.op)) ≡ true = rw e at result in
        let with_one : results (head_of i.op) ≡ true = ap (λ (n : ℕ). results (head_of n)) op ∙ parameter_results in
        let clash : false ≡ true = rw with_one at without in
        absurd (cc)
    by_id false e true g =
        let without : not (types (head_of i.op)) ≡ true = rw g at type in
        let with_one : types (head_of i.op) ≡ true = ap (λ (n : ℕ). types (head_of n)) op ∙ parameter_types in
        let clash : false ≡ true = rw with_one at without in
        absurd (cc)
    by_id false e false g = rw (e, g) refl

have_results : (a : Accepted) → IsValid a → AllByRecursion HasResult a.insts
have_results a v =
    subst (AllByRecursion HasResult) (insts_of_stands (sets_of a.insts) outside a.insts)
    (each_inst HasResult (stands_of a.insts)
    (each_weaker (IsInOrder (decoded_in a)) (λ (s : Stand). HasResult s.inst) (λ s order. result_from (decoded_in a) s.inst order.result order.has_type) (stands_of a.insts) v.ids))

-- ---- the parameters among registers

skipped : (ts : Types) (i : Inst) (rest : List Inst) → is_parameter i ≡ false → filter is_parameter (register_in ts i ++ rest) ≡ filter is_parameter rest
skipped ts i rest other = by_register (is_register ts i)
  where
    by_register : (b : Bool) → filter is_parameter (cond b (i ∷ []) [] ++ rest) ≡ filter is_parameter rest
    by_register true = rw other refl
    by_register false = refl

taken : (ts : Types) (i : Inst) (rest : List Inst) → is_parameter i ≡ true → has_result i ≡ true → filter is_parameter (register_in ts i ++ rest) ≡ i ∷ filter is_parameter rest
taken ts i rest own result =
    let register : is_register ts i ≡ true = rw (result, own) refl in
    rw register (rw own refl)

parameters_from : Types → ℕ → List (ℕ × Bool) → Position → List Inst → List Inst
parameters_from ts id sets position is = filter is_parameter (flat_map (register_of ts) (leading (stands_in id) (stands sets position is)))

parameter_kept : (k : Known) (i : Inst) (w : Within) (rest : List Inst) → KeepsBody k (place i w rest) → i.op ≡ 55 → KeepsParameter k w.ty w.parameters i
unfolding memory_rule atomic_rule composite_rule control_rule other_rule
parameter_kept k i w rest kept op = subst (λ (n : ℕ). KeepsRule k (place i w rest) (rule_of n)) op kept.1

-- where an instruction stands in the function, and those behind it are known
module _ (k : Known) (ts : Types) (id : ℕ) (sets : List (ℕ × Bool)) (position : Position) (w : Within) (x : Inst) (is : List Inst) (apart : x.id ≢ id) (result : HasResult x) (kept : KeepsBody k (place x w is)) where
  behind : List Inst
  behind = flat_map (register_of ts) (leading (stands_in id) (stands sets (position_after position (class_of sets x) x) is))

  module _ (later : (n : ℕ) (j : Inst) → slice_get (filter is_parameter behind) n ≡ Some j → parameter_type k ((within_after w x).parameters + n) (within_after w x).ty ≡ Some j.ty) (m : ℕ) (i : Inst) where
    next_typed : (v : Within) → within_after w x ≡ v → (n : ℕ) → slice_get (filter is_parameter behind) n ≡ Some i → parameter_type k (v.parameters + n) v.ty ≡ Some i.ty
    next_typed v same n h = subst (λ (u : Within). parameter_type k (u.parameters + n) u.ty ≡ Some i.ty) same (later n i h)

    none_behind : (js : List Inst) → (x.id == id) ≡ false → flat_map (register_of ts) (leading (stands_in id) (stands sets (begins x) js)) ≡ []
    none_behind [] e = refl
    none_behind (j ∷ js) e = rw e refl

    function_ends : x.op ≡ 54 → behind ≡ []
    unfolding behind
    function_ends op =
        let here : position_after position (class_of sets x) x ≡ begins x = ap (λ (c : Class). position_after position c x) (function_class sets x op) in
        ap (λ (p : Position). flat_map (register_of ts) (leading (stands_in id) (stands sets p is))) here ∙ none_behind is (ne_eqb x.id id apart)

    here_typed : (n : ℕ) → x.op ≡ 55 → within_after w x ≡ record w { parameters = suc w.parameters } → slice_get (x ∷ filter is_parameter behind) n ≡ Some i → parameter_type k (w.parameters + n) w.ty ≡ Some i.ty
    here_typed zero op next h =
        let same : x ≡ i = cc in
        let zero_is : w.parameters ≡ w.parameters + 0 = omega arith in
        subst (λ (n : ℕ). parameter_type k n w.ty ≡ Some i.ty) zero_is (parameter_kept k x w is kept op ∙ ap (λ (j : Inst). Some j.ty) same)
    here_typed (suc n) op next h =
        let next_is : suc w.parameters + n ≡ w.parameters + suc n = omega arith in
        subst (λ (j : ℕ). parameter_type k j w.ty ≡ Some i.ty) next_is (next_typed (record w { parameters = suc w.parameters }) next n h)

    by_within : (b : Bool) → slice_get (filter is_parameter (flat_map (register_of ts) (cond b (record { position = position; class = class_of sets x; inst = x } ∷ leading (stands_in id) (stands sets (position_after position (class_of sets x) x) is)) []))) m ≡ Some i
        → (c : Bool) → (x.op == 54) ≡ c → (e : Bool) → (x.op == 55) ≡ e → parameter_type k (w.parameters + m) w.ty ≡ Some i.ty
    unfolding behind
    by_within false h c is54 e is55 = absurd (cc)
    by_within true h true is54 e is55 =
        let op : x.op ≡ 54 = eqb-true x.op 54 is54 in
        let other : is_parameter x ≡ false = rw op refl in
        let none : slice_get (filter is_parameter behind) m ≡ Some i = subst (λ (l : List Inst). slice_get l m ≡ Some i) (skipped ts x behind other) h in
        let gone : slice_get (filter is_parameter []) m ≡ Some i = subst (λ (l : List Inst). slice_get (filter is_parameter l) m ≡ Some i) (function_ends op) none in
        absurd (cc)
    by_within true h false is54 true is55 =
        let op : x.op ≡ 55 = eqb-true x.op 55 is55 in
        here_typed m op (rw (is54, is55) refl) (subst (λ (l : List Inst). slice_get l m ≡ Some i) (taken ts x behind is55 (result op)) h)
    by_within true h false is54 false is55 =
        next_typed w (rw (is54, is55) refl) m (subst (λ (l : List Inst). slice_get l m ≡ Some i) (skipped ts x behind is55) h)

-- so many came before
typed_from : (k : Known) (ts : Types) (id : ℕ) (sets : List (ℕ × Bool)) (position : Position) (w : Within) (is : List Inst) → AllByRecursion (λ (j : Inst). j.id ≢ id) is → AllByRecursion HasResult is
    → AllByRecursion (KeepsBody k) (placed_from w is) → (m : ℕ) (i : Inst) → slice_get (parameters_from ts id sets position is) m ≡ Some i → parameter_type k (w.parameters + m) w.ty ≡ Some i.ty
unfolding parameters_from behind
typed_from k ts id sets position w [] apart have kept m i at = absurd (cc)
typed_from k ts id sets position w (x ∷ is) apart have kept m i at =
    by_within k ts id sets position w x is apart.0 have.0 kept.0
    (λ n j h. typed_from k ts id sets (position_after position (class_of sets x) x) (within_after w x) is apart.1 have.1 kept.1 n j h) m i
    (is_within id position) at (x.op == 54) refl (x.op == 55) refl

-- ---- the parameters of a function

within_function : (w : Within) (f : Inst) → f.op ≡ 54 → within_after w f ≡ record { returns = Some f.ty; ty = id_operand f 1; parameters = 0 }
within_function w f op = rw op refl

pub parameters_typed : (a : Accepted) → IsAccepted a → IsValid a → (n : ℕ) (f : Inst) → slice_get a.insts n ≡ Some f → f.op ≡ 54
    → (m : ℕ) (i : Inst) → slice_get (filter is_parameter (registers_of a.types a.insts f.id)) m ≡ Some i → parameter_type (known a) m (id_operand f 1) ≡ Some i.ty
unfolding parameters_from
parameters_typed a accepted v n f at op m i h =
    let k : Known = known a in
    let ts : Types = a.types in
    let later : List Inst = drop (suc n) a.insts in
    let there = from_function k a.insts n f at op (recursion_from_All (KeepsBody k) _ v.rules) in
    let whole : AllByRecursion (KeepsBody k) (placed_from there.within (f ∷ later)) = subst (λ (is : List Inst). AllByRecursion (KeepsBody k) (placed_from there.within is)) (drop_here a.insts n f at) there.kept in
    let facts_are = facts a accepted v n f at op in
    let next : n + 1 ≡ suc n = omega arith in
    let stood : members a.insts f.id ≡ leading (stands_in f.id) (stands (sets_of a.insts) (begins f) later)
    = facts_are.within ∙ ap (λ (j : ℕ). leading (stands_in f.id) (drop j (stands_of a.insts))) next ∙ ap (leading (stands_in f.id)) (behind_function (sets_of a.insts) outside a.insts n f at op) in
    let named = function_named (decoded_in a) f (result_here a n f v at) op in
    let begun = within_function there.within f op in
    let types = typed_from k ts f.id (sets_of a.insts) (begins f) (within_after there.within f) later (later_apart a.insts n f facts_are.distinct at named) (each_drop HasResult (suc n) a.insts (have_results a v)) whole.1 m i
    (subst (λ (ss : List Stand). slice_get (filter is_parameter (flat_map (register_of ts) ss)) m ≡ Some i) stood h) in
    let zero_is : 0 + m ≡ m = omega arith in
    subst (λ (j : ℕ). parameter_type k j (id_operand f 1) ≡ Some i.ty) zero_is (subst (λ (u : Within). parameter_type k (u.parameters + m) u.ty ≡ Some i.ty) begun types)
