-- What operands stand for where a run has come to their instruction.
use Rattle.std.proofs.Common.{◌≡◌, ◌∙◌, ◌<◌, ℕ, length, Bool, true, false, cond, List, Option, Some, None, refl, ap, subst}
use Rattle.std.proofs.Math.Logic.{∥∥₁_elim, ∥∥₁_map}
use Rattle.std.proofs.Props.{props}
use Rattle.std.proofs.lemmas.Bool.{not-true}
use Rattle.std.specs.Coded.{codes}
use Rattle.std.specs.List.{Contains}
use Rattle.std.specs.Option.{is_some, option_and_then}
use Rattle.std.specs.Prelude.{if◌then◌else◌}
use Rattle.spv_base.specs.contracts.values.Value.{the_row}
use Rattle.spv_base.specs.declared.instructions.Inst.{Inst}
use Rattle.spv_base.specs.declared.values.Pointer.{Pointer as Reference}
use Rattle.spv_base.specs.declared.values.Root.{Root}
use Rattle.spv_base.specs.declared.values.Value.{Value as Whole}
use Rattle.spv_base.proofs.Exports.{none_of}
use Rattle.spv_index.specs.Definitions.{result_type}
use Rattle.spv_index.specs.Operands.{id_operand}
use Rattle.spv_valid.specs.Below.spv_types.specs.Laws.{AreSound}
use Rattle.spv_valid.specs.Below.spv_types.specs.Queries.{is_pointer}
use Rattle.spv_valid.specs.Below.spv_types.specs.Rows.{no_roots}
use Rattle.spv_valid.specs.Below.spv_types.specs.Shapes.{HasShape}
use Rattle.spv_valid.specs.Below.spv_types.specs.Types.{Types, form_of}
use Rattle.spv_valid.specs.Below.spv_bodies.specs.Context.{type_at, type_of}
use Rattle.spv_valid.specs.Acceptance.{Accepted, IsAccepted}
use Rattle.spv_frame.specs.Frames.{Held as Frame}
use Rattle.spv_frame.specs.Registers.{number_of}
use Rattle.spv_state.specs.Below.spv_plans.specs.Plans.{functions_in, plans_in}
use Rattle.spv_state.specs.Below.spv_plans.specs.Registered.{IsOfFunction}
use Rattle.spv_state.specs.Below.spv_plans.proofs.Exports.{at_contains, contains_at, number_there, number_gets}
use Rattle.spv_operands.specs.Operands.{IsPlain, data_of, pointer_of, shown}
use Rattle.spv_operands.specs.Shapes.{AreShaped, target_in}
use Rattle.spv_operands.specs.Values.{value_of}
use Rattle.spv_operands.specs.declared.operands.Operand.{Operand}
use Rattle.spv_operands.proofs.Exports.{data_plain}
use Rattle.spv_state.specs.Below.spv_results.specs.Operands.{IsOperand, known}
use Rattle.spv_state.specs.Below.spv_results.proofs.Exports.{shape_prop}
use Rattle.spv_sites.specs.Sites.{IsShaped, IsSite, Site, accepted, is_data, is_data_at, values}
use Rattle.spv_state.specs.State.{depth_of}
use Rattle.spv_sites.proofs.SiteLemmas.{frame_sound}
use Rattle.spv_state.proofs.Exports.{function_known, standing}

-- ---- the plan of the frame

-- an id that is known to be among others is found there
pub recovered : (id : ℕ) (ks : List ℕ) → ∥ Contains ks id ∥₁ → Contains ks id
recovered id ks has = by_number (number_of id ks) refl (∥∥₁_elim has (hlevel props) (λ (h : Contains ks id). let at = contains_at ks id h in let n = number_there id ks at.0 at.1 in ap is_some n.1))
  where
    by_number : (o : Option ℕ) → number_of id ks ≡ o → is_some o ≡ true → Contains ks id
    by_number None e g = absurd (cc)
    by_number (Some n) e g = at_contains ks n id (number_gets id ks n e)

pub plans_are : (x : Site) → ∥ IsSite x ∥₁ → x.state.plans ≡ plans_in (accepted x)
plans_are x site = ∥∥₁_elim site (hlevel (props, codes)) (λ (is : IsSite x). is.sound.plans)

pub inside_is : (x : Site) → ∥ IsSite x ∥₁ → x.inv < length x.state.stacks
inside_is x site = ∥∥₁_elim site (hlevel props) (λ (is : IsSite x). is.inside)

pub of_function : (x : Site) → ∥ IsSite x ∥₁ → IsOfFunction (accepted x) x.frame.plan
of_function x site = record {
  function = recovered x.frame.plan.function (functions_in (accepted x))
      (∥∥₁_map site (λ (is : IsSite x). function_known (accepted x) x.frame.plan.function x.frame.pc (standing (accepted x) x.frame.plan.function x.frame.pc (frame_sound x is).stands)));
  is = ∥∥₁_elim site (hlevel (props, codes)) (λ (is : IsSite x). (frame_sound x is).plan);
}

pub are_shaped : (x : Site) → ∥ IsSite x ∥₁ → ∥ AreShaped (accepted x) x.frame ∥₁
are_shaped x site = ∥∥₁_map site (λ (is : IsSite x). (frame_sound x is).shaped)

-- ---- shapes

-- what operands have by their types, values and pointers
abbrev pub ValuesHaveShapes : Type 0
ValuesHaveShapes = (a : Accepted) (f : Frame) (depth id ty : ℕ) (v : Whole) → IsAccepted a → AreShaped a f → value_of a f depth id ≡ Some v → result_type a.insts id ≡ Some ty
    → is_pointer (form_of a.types ty) ≡ false → HasShape a.types no_roots ty v

abbrev pub PointersHaveShapes : Type 0
PointersHaveShapes = (a : Accepted) (f : Frame) (depth id ty : ℕ) (v : Whole) → IsAccepted a → AreShaped a f → value_of a f depth id ≡ Some v → result_type a.insts id ≡ Some ty
    → is_pointer (form_of a.types ty) ≡ true → HasShape a.types (target_in a ty) ty v

module _ (plains : ValuesHaveShapes) (pointers : PointersHaveShapes) (x : Site) where
  shape_by : (v : Whole) (id ty : ℕ) → IsAccepted (accepted x) → IsSite x → value_of (accepted x) x.frame (depth_of x.state x.inv) id ≡ Some v → result_type (accepted x).insts id ≡ Some ty
      → HasShape (accepted x).types (if is_pointer (form_of (accepted x).types ty) then target_in (accepted x) ty else no_roots) ty v
  shape_by v id ty accepts is value type = by_pointer (is_pointer (form_of (accepted x).types ty)) refl
    where
      by_pointer : (b : Bool) → is_pointer (form_of (accepted x).types ty) ≡ b → HasShape (accepted x).types (cond b (target_in (accepted x) ty) no_roots) ty v
      by_pointer true e = pointers (accepted x) x.frame (depth_of x.state x.inv) id ty v accepts (frame_sound x is).shaped value type e
      by_pointer false e = plains (accepted x) x.frame (depth_of x.state x.inv) id ty v accepts (frame_sound x is).shaped value type e

  -- what an id stands for, where the module that is read is the site's
  pub id_shape : (id ty : ℕ) (v : Whole) (m : Accepted) → m ≡ accepted x → ∥ IsAccepted m ∥₁ → ∥ IsSite x ∥₁ → value_of (accepted x) x.frame (depth_of x.state x.inv) id ≡ Some v → result_type (accepted x).insts id ≡ Some ty
      → HasShape (accepted x).types (if is_pointer (form_of (accepted x).types ty) then target_in (accepted x) ty else no_roots) ty v
  id_shape id ty v m same accepts site value type =
      let roots : Root → Option ℕ = if is_pointer (form_of (accepted x).types ty) then target_in (accepted x) ty else no_roots in
      ∥∥₁_elim (subst (λ (a : Accepted). ∥ IsAccepted a ∥₁) same accepts) (shape_prop (accepted x).types roots ty v) (λ (h : IsAccepted (accepted x)).
      ∥∥₁_elim site (shape_prop (accepted x).types roots ty v) (λ (is : IsSite x). shape_by v id ty h is value type))

  pub operand_shape : (n : ℕ) (v : Whole) (m : Accepted) → m ≡ accepted x → ∥ IsAccepted m ∥₁ → ∥ IsSite x ∥₁ → values x n ≡ Some v → IsShaped (accepted x) x.inst n v
  operand_shape n v m same accepts site value ty type = by_id (id_operand x.inst n) value type
    where
      by_id : (o : Option ℕ) → option_and_then (value_of (accepted x) x.frame (depth_of x.state x.inv)) o ≡ Some v → option_and_then (type_of (known (accepted x))) o ≡ Some ty
          → HasShape (accepted x).types (if is_pointer (form_of (accepted x).types ty) then target_in (accepted x) ty else no_roots) ty v
      by_id None e t = absurd (cc)
      by_id (Some id) e t = id_shape id ty v m same accepts site e t

-- ---- data

-- an operand of a type that is no pointer type is no pointer
pub data_type : (ts : Types) (o : Option ℕ) → is_data ts o ≡ true → (ty : ℕ) × (o ≡ Some ty) × (is_pointer (form_of ts ty) ≡ false)
data_type ts None h = absurd (cc)
data_type ts (Some ty) h = (ty, refl, not-true (is_pointer (form_of ts ty)) h)

plain_shape : (a : Accepted) (d : Inst) (n ty : ℕ) (v : Whole) → IsShaped a d n v → type_at (known a) d n ≡ Some ty → is_pointer (form_of a.types ty) ≡ false → HasShape a.types no_roots ty v
plain_shape a d n ty v shaped type plain = subst (λ (b : Bool). HasShape a.types (if b then target_in a ty else no_roots) ty v) plain (shaped ty type)

pub datum_shape : (a : Accepted) (d : Inst) (n : ℕ) (v : Whole) → is_data_at a d n ≡ true → IsShaped a d n v → IsOperand a d n v
datum_shape a d n v typed shaped ty type =
    let found = data_type a.types (type_at (known a) d n) typed in
    let same : found.0 ≡ ty = let e = found.1 in cc in
    plain_shape a d n ty v shaped type (subst (λ (t : ℕ). is_pointer (form_of a.types t) ≡ false) same found.2)

pub datum_plain : (a : Accepted) (d : Inst) (n : ℕ) (v : Whole) → AreSound a.types → is_data_at a d n ≡ true → IsShaped a d n v → pointer_of v ≡ None
datum_plain a d n v sound typed shaped =
    let found = data_type a.types (type_at (known a) d n) typed in
    none_of (pointer_of v) (data_plain a.types sound found.0 v (plain_shape a d n found.0 v shaped found.1 found.2))

-- the value that is lent
module _ (o : Operand) (h : ∥ IsPlain o × (pointer_of (shown o) ≡ None) ∥₁) (r : Option Whole) (lent : IsPlain o → r ≡ data_of (shown o)) where
  lends : IsPlain o × (pointer_of (shown o) ≡ None) → r ≡ Some (shown o)
  lends k = lent k.0 ∙ ap (λ (p : Option Reference). if is_some p then None else Some (shown o)) k.1

  pub datum_there : r ≡ None → ⊥
  datum_there none = ∥∥₁_elim h (hlevel props) (λ (k : IsPlain o × (pointer_of (shown o) ≡ None)). let e : r ≡ Some (shown o) = lends k in cc)

  pub datum_is : (v : Whole) → r ≡ Some v → v ≡ shown o
  datum_is v some = ∥∥₁_elim h (hlevel (props, codes, the_row.coded)) (λ (k : IsPlain o × (pointer_of (shown o) ≡ None)). let e : r ≡ Some (shown o) = lends k in cc)
