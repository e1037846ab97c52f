-- Operands of predecoded instructions, by where they lie.
use Rattle.std.proofs.Common.{◌≡◌, ◌∙◌, ℕ, true, Option, Some, None, IfSome, ap}
use Rattle.std.proofs.Math.Logic.{∥∥₁_elim}
use Rattle.std.proofs.Props.{props}
use Rattle.std.specs.Coded.{codes}
use Rattle.std.specs.Option.{option_and_then}
use Rattle.spv_base.specs.contracts.values.Value.{the_row}
use Rattle.spv_base.specs.declared.instructions.Inst.{Inst}
use Rattle.spv_base.specs.declared.values.Value.{Value}
use Rattle.spv_index.specs.Operands.{id_operand}
use Rattle.spv_valid.specs.Acceptance.{Accepted, IsAccepted}
use Rattle.spv_frame.specs.Registers.{IsSlotOf, Rooms}
use Rattle.spv_frame.specs.declared.slots.Slot.{Slot}
use Rattle.spv_operands.specs.Values.{value_of}
use Rattle.spv_state.specs.Below.spv_plans.specs.Plans.{plan_of}
use Rattle.spv_state.specs.Below.spv_results.specs.Operands.{IsOperand}
use Rattle.spv_state.specs.Predecoded.{IsNamedAt, IsReadAt}
use Rattle.spv_state.specs.Sources.{IsName, IsSource, id_of, name_of, slot_of}
use Rattle.spv_state.specs.State.{depth_of}
use Rattle.spv_state.specs.declared.predecoded.Source.{Source}
use Rattle.spv_state.specs.declared.predecoded.Source.TheVariants.{Register, Constant}
use Rattle.spv_state.specs.declared.predecoded.VariableName.{VariableName}
use Rattle.spv_state.specs.declared.predecoded.VariableName.TheVariants.{Module, Local}
use Rattle.spv_sites.specs.Sites.{IsSite, Site, accepted, is_data_at, values}
use Rattle.spv_sites.proofs.OperandLemmas.{PointersHaveShapes, ValuesHaveShapes, datum_shape, operand_shape}

-- ---- slots

pub slot_lies : {T : Type 0} (rs : Rooms) (slot : Slot) → ∥ T ∥₁ → (T → IsSlotOf rs slot) → IsSlotOf rs slot
slot_lies rs slot h lies = record {
  named = ∥∥₁_elim h (hlevel (props, codes)) (λ t. (lies t).named);
  begins = ∥∥₁_elim h (hlevel (props, codes)) (λ t. (lies t).begins);
  long = ∥∥₁_elim h (hlevel (props, codes)) (λ t. (lies t).long);
}

-- ---- operands

pub source_lies : (a : Accepted) (function : ℕ) (d : Inst) (n : ℕ) (source : Source) → ∥ IsReadAt a function d n source ∥₁ → IsSource a function source
source_lies a function d n (Register slot) h = (
  slot_lies (plan_of a function).values (slot_of slot) h (λ (r : IsReadAt a function d n (Register slot)). r.lies.0),
  ∥∥₁_elim h (hlevel (props, codes)) (λ (r : IsReadAt a function d n (Register slot)). r.lies.1),
)
source_lies a function d n (Constant id) h = ∥∥₁_elim h (hlevel (props, codes)) (λ (r : IsReadAt a function d n (Constant id)). r.lies)

pub name_lies : (a : Accepted) (function : ℕ) (d : Inst) (n : ℕ) (name : VariableName) → ∥ IsNamedAt a function d n name ∥₁ → IsName a function name
name_lies a function d n (Module id root) h = (
  ∥∥₁_elim h (hlevel (props, codes)) (λ (r : IsNamedAt a function d n (Module id root)). r.names.0),
  ∥∥₁_elim h (hlevel (props, codes)) (λ (r : IsNamedAt a function d n (Module id root)). r.names.1),
)
name_lies a function d n (Local id) h = ∥∥₁_elim h (hlevel (props, codes)) (λ (r : IsNamedAt a function d n (Local id)). r.names)

module _ (x : Site) (n : ℕ) where
  by_id : (id : ℕ) (v : Value) → id_operand x.inst n ≡ Some id → value_of (accepted x) x.frame (depth_of x.state x.inv) id ≡ Some v → values x n ≡ Some v
  by_id id v operand value = ap (option_and_then (value_of (accepted x) x.frame (depth_of x.state x.inv))) operand ∙ value

  pub read_value : (source : Source) (v : Value) → ∥ IsReadAt (accepted x) x.frame.plan.function x.inst n source ∥₁ → ((depth : ℕ) → value_of (accepted x) x.frame depth (id_of source) ≡ Some v)
      → values x n ≡ Some v
  read_value source v h value =
      ∥∥₁_elim h (hlevel (props, codes, the_row.coded)) (λ (r : IsReadAt (accepted x) x.frame.plan.function x.inst n source). by_id (id_of source) v r.operand (value (depth_of x.state x.inv)))

  pub named_value : (name : VariableName) (v : Value) → ∥ IsNamedAt (accepted x) x.frame.plan.function x.inst n name ∥₁ → value_of (accepted x) x.frame (depth_of x.state x.inv) (name_of name) ≡ Some v
      → values x n ≡ Some v
  named_value name v h value =
      ∥∥₁_elim h (hlevel (props, codes, the_row.coded)) (λ (r : IsNamedAt (accepted x) x.frame.plan.function x.inst n name). by_id (name_of name) v r.operand value)

  pub read_values : (source : Source) (o : Option Value) → ∥ IsReadAt (accepted x) x.frame.plan.function x.inst n source ∥₁
      → IfSome o (λ v. (depth : ℕ) → value_of (accepted x) x.frame depth (id_of source) ≡ Some v) → IfSome o (λ v. values x n ≡ Some v)
  read_values source None h value = tt
  read_values source (Some v) h value = read_value source v h value

  pub read_shapes : ValuesHaveShapes → PointersHaveShapes → (m : Accepted) → m ≡ accepted x → ∥ IsAccepted m ∥₁ → ∥ IsSite x ∥₁ → is_data_at (accepted x) x.inst n ≡ true → (o : Option Value)
      → IfSome o (λ v. values x n ≡ Some v) → IfSome o (IsOperand (accepted x) x.inst n)
  read_shapes plains pointers m same accepts site typed None value = tt
  read_shapes plains pointers m same accepts site typed (Some v) value =
      datum_shape (accepted x) x.inst n v typed (operand_shape plains pointers x n v m same accepts site value)
