-- OpSelect: by the type of its result it computes on values, or chooses between two pointers.
use Rattle.std.proofs.Common.{◌≡◌, ◌∙◌, inl, inr, ℕ, Bool, true, false, Option, Some, None, Result, Ok, Err, ok_or, refl, sym, ap, subst}
use Rattle.std.proofs.lemmas.Bool.{both_ways, not-true}
use Rattle.std.specs.Option.{IsSomeAnd, is_some, option_and_then}
use Rattle.std.specs.Prelude.{◌==◌, if◌then◌else◌}
use Rattle.spv_base.specs.Cell.{Cell}
use Rattle.spv_base.specs.Entries.{reads}
use Rattle.spv_base.specs.declared.instructions.Inst.{Inst}
use Rattle.spv_base.specs.declared.values.Pointer.{Pointer as Reference}
use Rattle.spv_base.specs.declared.values.Value.{Value, Scalar, out-Value}
use Rattle.spv_ops.specs.Steps.{◌>>=◌}
use Rattle.spv_types.specs.declared.forms.Form.TheVariants.{Bool as Boolean}
use Rattle.spv_types.specs.Laws.{AreSound}
use Rattle.spv_types.specs.Queries.{is_pointer}
use Rattle.spv_types.specs.Rows.{no_roots}
use Rattle.spv_types.specs.Shapes.{HasShape, pointer_in, scalar_in}
use Rattle.spv_types.specs.Types.{form_of}
use Rattle.spv_types.proofs.Exports.{leaves_scalar, shapes_are_by_forms}
use Rattle.spv_typing.specs.Laws.{IsTyped}
use Rattle.spv_typing.specs.Rules.{rule_of}
use Rattle.spv_typing.specs.declared.rules.Rule.{Rule}
use Rattle.spv_typing.specs.declared.rules.Rule.TheVariants.{Select as OfSelect}
use Rattle.spv_bodies.specs.Context.{Known, type_at}
use Rattle.spv_bodies.specs.Lanes.{KeepsLanes, types_after}
use Rattle.spv_bodies.specs.Pointers.{KeepsPointerSelect, KeepsSelect}
use Rattle.spv_effects.specs.Lanes.{lane_of}
use Rattle.spv_effects.specs.Selects.{select_value}
use Rattle.spv_operands.specs.Operands.{pointer_of}
use Rattle.spv_operands.specs.Shapes.{target_in}
use Rattle.spv_operands.proofs.Exports.{data_plain}
use Rattle.spv_results.specs.Computations.{computation_of}
use Rattle.spv_results.specs.Operands.{IsOperand, known}
use Rattle.spv_results.specs.Results.{of_three, result_of}
use Rattle.spv_results.specs.declared.computations.Computation.{Computation}
use Rattle.spv_results.specs.declared.computations.Computation.TheVariants.{Select as Selecting}
use Rattle.spv_valid.specs.Acceptance.{Accepted, IsAccepted}
use Rattle.spv_valid.specs.Validity.{IsValid}
use Rattle.spv_state.specs.Actions.{action_of, action_rows}
use Rattle.spv_state.specs.declared.actions.Action.TheVariants.{Compute, Select}
use Rattle.spv_sites.specs.Effects as spec
use Rattle.spv_sites.specs.Effects.{Next, gives}
use Rattle.spv_sites.specs.Fits.{ControlFits, Fits}
use Rattle.spv_sites.specs.Selects.{chosen, selected}
use Rattle.spv_sites.specs.Sites.{IsShaped, IsSite, Site, accepted, due, is_data, is_data_at, values}
use Rattle.spv_sites.specs.declared.causes.Cause.{Cause}
use Rattle.spv_sites.specs.declared.causes.Cause.TheVariants.{NoValue, UndefinedIndex}
use Rattle.spv_sites.proofs.Exports.{IsComputationDue, ValuesHaveShapes, PointersHaveShapes, acting, computed, data_type, due_by, err_then, ok_then, operand, operand_shape, pointed, pointer_form, reference_shape, result_is, shaped_level, site_root}
use Rattle.spv_base.proofs.Exports.{none_of}
use Rattle.spv_computing.proofs.CompositeLemmas.{form_data}
use Rattle.spv_computing.proofs.DataLemmas.{lane_operands, one_has, select_has, selectable_plain}

-- ---- what it is

pub select_operation : (i : Inst) → action_of i ≡ Select → computation_of i ≡ Some Selecting
unfolding computation_of
select_operation i is = rw (acting i Select is) refl

-- what computes by its action is none
pub computes_else : (i : Inst) (c : Computation) → action_of i ≡ Compute → computation_of i ≡ Some c → c ≡ Selecting → ⊥
computes_else i c is has same =
    let op : i.op ≡ 169 = computed i Selecting (has ∙ ap (λ (d : Computation). Some d) same) in
    let none : reads 169 action_rows ≡ None = ap (λ (n : ℕ). reads n action_rows) (sym op) ∙ (acting i Compute is).0 in
    cc

-- ---- the rule that it keeps

select_rule : rule_of 169 ≡ Some OfSelect
unfolding rule_of
select_rule = refl

module _ (k : Known) (i : Inst) where
  select_typed : i.op ≡ 169 → KeepsLanes k i → IsTyped k.types OfSelect i.ty (types_after k i 0)
  select_typed op lanes =
      let rule : Some lanes.0 ≡ Some OfSelect = sym lanes.1 ∙ ap rule_of op ∙ select_rule in
      let same : lanes.0 ≡ OfSelect = cc in
      subst (λ (r : Rule). IsTyped k.types r i.ty (types_after k i 0)) same lanes.2

  -- of values where its type is no pointer type
  pub select_values : is_pointer (form_of k.types i.ty) ≡ false → KeepsSelect k i → KeepsLanes k i
  select_values plain (inl lanes) = lanes
  select_values plain (inr pointers) = absurd (both_ways (is_pointer (form_of k.types i.ty)) plain (ap is_pointer pointers.1.1.1.1))

  -- and else of pointers
  pub select_pointers : i.op ≡ 169 → is_pointer (form_of k.types i.ty) ≡ true → KeepsSelect k i → KeepsPointerSelect k i
  select_pointers op pointer (inl lanes) =
      let plain = not-true (is_pointer (form_of k.types i.ty)) (selectable_plain (form_of k.types i.ty) (select_typed op lanes).0) in
      absurd (both_ways (is_pointer (form_of k.types i.ty)) plain pointer)
  select_pointers op pointer (inr pointers) = pointers

-- ---- what is due

module _ (x : Site) (is : action_of x.inst ≡ Select) where
  abbrev all : Value → Value → Value → Result spec.Effect Cause
  all c v w = selected x.program x.state x.inv x.frame x.inst c v w (pointer_in (out-Value v))

  abbrev third : Value → Value → Result spec.Effect Cause
  third c v = operand x 2 >>= all c v

  abbrev second : Value → Result spec.Effect Cause
  second c = operand x 1 >>= third c

  select_due : due x ≡ (operand x 0 >>= second)
  select_due = due_by x Select is

  there : (n : ℕ) (v : Value) → values x n ≡ Some v → operand x n ≡ Ok v
  there n v h = ap (λ (o : Option Value). ok_or o NoValue) h

  missing : (n : ℕ) → values x n ≡ None → operand x n ≡ Err NoValue
  missing n h = ap (λ (o : Option Value). ok_or o NoValue) h

  pub select_missing : values x 0 ≡ None → due x ≡ Err NoValue
  select_missing none = select_due ∙ err_then (operand x 0) second NoValue (missing 0 none)

  module _ (c : Value) (condition : values x 0 ≡ Some c) where
    select_second : due x ≡ second c
    select_second = select_due ∙ ok_then (operand x 0) second c (there 0 c condition)

    pub select_without : values x 1 ≡ None → due x ≡ Err NoValue
    select_without none = select_second ∙ err_then (operand x 1) (third c) NoValue (missing 1 none)

    module _ (v : Value) (object : values x 1 ≡ Some v) where
      select_third : due x ≡ third c v
      select_third = select_second ∙ ok_then (operand x 1) (third c) v (there 1 v object)

      pub select_alone : values x 2 ≡ None → due x ≡ Err NoValue
      select_alone none = select_third ∙ err_then (operand x 2) (all c v) NoValue (missing 2 none)

      pub select_all : (w : Value) (o : Option Reference) → values x 2 ≡ Some w → pointer_of v ≡ o → due x ≡ selected x.program x.state x.inv x.frame x.inst c v w o
      select_all w o other lent =
          select_third ∙ ok_then (operand x 2) (all c v) w (there 2 w other) ∙ ap (selected x.program x.state x.inv x.frame x.inst c v w) lent

  -- ---- of values

  abbrev result : Option Value → Option Value → Option Value → Result spec.Effect Cause
  result a b c = ok_or (of_three select_value a b c) NoValue >>= (λ (v : Value). Ok (gives v))

  pub select_computes : computation_of x.inst ≡ Some Selecting → ((v : Value) → values x 1 ≡ Some v → pointer_of v ≡ None) → IsComputationDue x
  select_computes has plain = by_values (values x 0) refl (values x 1) refl (values x 2) refl
    where
      of_results : (a b c : Option Value) → values x 0 ≡ a → values x 1 ≡ b → values x 2 ≡ c → result a b c ≡ (ok_or (result_of (accepted x) x.inst (values x)) NoValue >>= (λ (v : Value). Ok (gives v)))
      of_results a b c e f g = sym (ap (λ (o : Option Value). ok_or o NoValue >>= (λ (v : Value). Ok (gives v))) (result_is x Selecting has) ∙ rw (e, f, g) refl)

      by_values : (a : Option Value) → values x 0 ≡ a → (b : Option Value) → values x 1 ≡ b → (c : Option Value) → values x 2 ≡ c → IsComputationDue x
      by_values None e b f c g = select_missing e ∙ of_results None b c e f g
      by_values (Some u) e None f c g = select_without u e f ∙ of_results (Some u) None c e f g
      by_values (Some u) e (Some v) f None g = select_alone u e v f g ∙ of_results (Some u) (Some v) None e f g
      by_values (Some u) e (Some v) f (Some w) g = select_all u e v f w None g (plain v f)

-- an operand of a type that is no pointer type is none
module _ (values_have : ValuesHaveShapes) (pointers_have : PointersHaveShapes) (x : Site) (m : Accepted) (same : m ≡ accepted x) (accepts : ∥ IsAccepted m ∥₁) (site : ∥ IsSite x ∥₁) (sound : AreSound (accepted x).types) where
  datum_plain : (n : ℕ) (v : Value) → is_data_at (accepted x) x.inst n ≡ true → values x n ≡ Some v → pointer_of v ≡ None
  datum_plain n v typed value =
      let type = data_type (accepted x).types (type_at (known (accepted x)) x.inst n) typed in
      let shape = operand_shape values_have pointers_have x n v m same accepts site value type.0 type.1 in
      none_of (pointer_of v) (data_plain (accepted x).types sound type.0 v (subst (λ (b : Bool). HasShape (accepted x).types (if b then target_in (accepted x) type.0 else no_roots) type.0 v) type.2 shape))

  pub values_plain : x.inst.op ≡ 169 → KeepsLanes (known (accepted x)) x.inst → (v : Value) → values x 1 ≡ Some v → pointer_of v ≡ None
  values_plain op lanes v value = datum_plain 1 v (lane_operands (known (accepted x)) x.inst 3 (one_has x.inst.op 169 3 op select_has) lanes).0.1 value

-- ---- of pointers

pub condition_data : (k : Known) (i : Inst) → KeepsPointerSelect k i → is_data k.types (type_at k i 0) ≡ true
condition_data k i rule = form_data k.types (type_at k i 0) Boolean rule.1.0 refl

pub condition_scalar : (a : Accepted) (d : Inst) (v : Value) → AreSound a.types → KeepsPointerSelect (known a) d → IsOperand a d 0 v → is_some (scalar_in (out-Value v)) ≡ true
condition_scalar a d v sound rule own =
    by_type (type_at (known a) d 0) rule.1.0 own
  where
    some : (o : Option Cell) (P : Cell → Type 0) → IsSomeAnd o P → is_some o ≡ true
    some None P h = absurd h
    some (Some c) P h = refl

    by_type : (o : Option ℕ) → option_and_then (form_of a.types) o ≡ Some Boolean → ((ty : ℕ) → o ≡ Some ty → HasShape a.types no_roots ty v) → is_some (scalar_in (out-Value v)) ≡ true
    by_type None e h = absurd (cc)
    by_type (Some ty) e h = some (scalar_in (out-Value v)) _ ((shapes_are_by_forms a.types no_roots sound ty Boolean v e).0 (h ty refl))

lane_is : (v : Value) (c : Cell) → v ≡ Scalar c → lane_of v ≡ c
lane_is v c is = ap lane_of is ∙ rw (leaves_scalar c) refl

module _ (x : Site) (is : action_of x.inst ≡ Select) (c : Value) (condition : values x 0 ≡ Some c) (v : Value) (object : values x 1 ≡ Some v) (w : Value) (other : values x 2 ≡ Some w) (lane : Cell) (scalar : c ≡ Scalar lane) where
  chosen_due : is_some (pointer_of v) ≡ true → due x ≡ chosen lane v w
  chosen_due lent = by_pointer (pointer_of v) refl lent
    where
      by_pointer : (o : Option Reference) → pointer_of v ≡ o → is_some o ≡ true → due x ≡ chosen lane v w
      by_pointer None e some = absurd (cc)
      by_pointer (Some q) e some = select_all x is c condition v object w (Some q) other e ∙ ap (λ (l : Cell). chosen l v w) (lane_is c lane scalar)

  pub chosen_undefined : is_some (pointer_of v) ≡ true → lane.defined ≡ false → due x ≡ Err UndefinedIndex
  chosen_undefined lent undefined = chosen_due lent ∙ rw undefined refl

  pub chosen_other : is_some (pointer_of v) ≡ true → lane.defined ≡ true → (lane.bits == 0) ≡ true → due x ≡ Ok (gives w)
  chosen_other lent defined zero = chosen_due lent ∙ rw (defined, zero) refl

  pub chosen_object : is_some (pointer_of v) ≡ true → lane.defined ≡ true → (lane.bits == 0) ≡ false → due x ≡ Ok (gives v)
  chosen_object lent defined more = chosen_due lent ∙ rw (defined, more) refl

-- an operand of a pointer type is a pointer
pub operand_lent : (a : Accepted) (d : Inst) (n ty : ℕ) (v : Value) → AreSound a.types → IsShaped a d n v → type_at (known a) d n ≡ Some ty → is_pointer (form_of a.types ty) ≡ true → is_some (pointer_of v) ≡ true
operand_lent a d n ty v sound shaped type is =
    let form = pointer_form (form_of a.types ty) is in
    let shape = reference_shape a d n ty form.0 form.1 v shaped type form.2 in
    ap is_some (pointed a.types (target_in a ty) ty form.0 form.1 v sound form.2 shape).is

-- one of the instruction's type can be taken by the register
pub chosen_fits : (x : Site) (m : Accepted) → m ≡ accepted x → ∥ IsAccepted m ∥₁ → ∥ IsValid m ∥₁ → ∥ IsSite x ∥₁ → AreSound (accepted x).types → ControlFits (accepted x) x.inst Next → (n : ℕ) (v : Value)
    → values x n ≡ Some v → IsShaped (accepted x) x.inst n v → type_at (known (accepted x)) x.inst n ≡ Some x.inst.ty → Fits x.program x.state x.inv x.inst (gives v)
chosen_fits x m same accepts valid site sound next n v value shaped type = record {
  store = tt;
  result = shaped_level (accepted x) sound x.inst.ty v (shaped x.inst.ty type);
  control = next;
  rooted = λ q lent. site_root x n x.inst.ty v q m same accepts valid site value type lent;
  passed = tt;
}
