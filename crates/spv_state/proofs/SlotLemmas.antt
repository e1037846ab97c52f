-- The register of an id in the top frame, if the frame has it, and where it lies.
use Rattle.std.proofs.Common.{◌≡◌, ◌∙◌, ℕ, Option, Some, None, length, slice_get, refl, sym, ap, subst}
use Rattle.std.specs.List.{Contains}
use Rattle.std.specs.Option.{IsSomeAnd}
use Rattle.spv_base.specs.declared.values.Value.{Value}
use Rattle.spv_index.specs.Definitions.{result_type}
use Rattle.spv_types.specs.Cells.{cells_of}
use Rattle.spv_types.specs.Rows.{leaves, no_roots}
use Rattle.spv_types.specs.Shapes.{HasShape}
use Rattle.spv_frame.specs.declared.slots.Slot.{Slot}
use Rattle.spv_frame.specs.Frames.{Held as Frame}
use Rattle.spv_frame.specs.Registers.{IsSlotOf, Planned, ids, number_of}
use Rattle.spv_plans.specs.Plans.{functions_in, plan_of}
use Rattle.spv_plans.specs.Registered.{HasApart, HasValueType}
use Rattle.spv_plans.proofs.Exports.{number_there}
use Rattle.spv_valid.specs.Acceptance.{Accepted}
use Rattle.spv_state.specs.Sound.{IsSoundFrame}
use Rattle.spv_state.proofs.ExecutableLemmas.{function_known, standing}

-- ---- where a register lies

-- a register of a pointer is none of a value
pub no_value : (p : Planned) (id n : ℕ) → HasApart p → slice_get p.pointers n ≡ Some id → number_of id (ids p.values) ≡ None
no_value p id n apart at = by_number (number_of id (ids p.values)) refl
  where
    by_number : (o : Option ℕ) → number_of id (ids p.values) ≡ o → o ≡ None
    by_number None e = refl
    by_number (Some k) e = let there = number_there id p.pointers n at in let none = apart.kinds id k e in let some = there.1 in absurd (cc)

-- and one of a value is none of a pointer
pub no_pointer : (p : Planned) (id n : ℕ) → HasApart p → slice_get (ids p.values) n ≡ Some id → number_of id p.pointers ≡ None
no_pointer p id n apart at = let there = number_there id (ids p.values) n at in apart.kinds id there.0 there.1

-- ---- the plan of the top frame

-- the function of the top frame is one of the module, and its plan that of the function
pub record IsTop (a : Accepted) (function : ℕ) (f : Frame) : Type 0 where
  pub among : Contains (functions_in a) function
  pub plan : f.plan ≡ plan_of a function

pub own_plan : (a : Accepted) (function : ℕ) (f : Frame) → f.plan.function ≡ function → IsSoundFrame a f → IsTop a function f
own_plan a function f same s = record {
  among = subst (Contains (functions_in a)) same (function_known a f.plan.function f.pc (standing a f.plan.function f.pc s.stands));
  plan = s.plan ∙ ap (plan_of a) same;
}

pub top_plan : (a : Accepted) (function : ℕ) (o : Option Frame) → IsSomeAnd o (λ f. f.plan.function ≡ function) → IsSomeAnd o (IsSoundFrame a) → (f : Frame) × (o ≡ Some f) × IsTop a function f
top_plan a function None same s = absurd s
top_plan a function (Some f) same s = (f, refl, own_plan a function f same s)

pub slot_there : (a : Accepted) (function : ℕ) (o : Option Frame) (s : Slot) → IsSomeAnd o (λ f. f.plan.function ≡ function) → IsSomeAnd o (IsSoundFrame a) → IsSlotOf (plan_of a function).values s
    → IsSomeAnd o (λ f. IsSlotOf f.plan.values s)
slot_there a function None s same sound slot = absurd sound
slot_there a function (Some f) s same sound slot = subst (λ (p : Planned). IsSlotOf p.values s) (sym (own_plan a function f same sound).plan) slot

-- a value of the type of a register has as many cells
pub cells_fit : (a : Accepted) (p : Planned) (id : ℕ) (s : Slot) (v : Value) → IsSlotOf p.values s → s.id ≡ id → HasValueType a p s.id s.number
    → ((ty : ℕ) → result_type a.insts id ≡ Some ty → HasShape a.types no_roots ty v) → ((ty n : ℕ) → HasShape a.types no_roots ty v → cells_of a.types ty ≡ Some n → length (leaves v) ≡ n) → length (leaves v) ≡ s.len
cells_fit a p id s v slot same type shape fills =
    let pair : (s.id, type.len) ≡ (s.id, s.len) = let one = type.at in let other = slot.long in cc in
    let len : type.len ≡ s.len = ap (λ (x : ℕ × ℕ). x.1) pair in
    fills type.ty type.len (shape type.ty (ap (result_type a.insts) (sym same) ∙ type.is)) type.cells ∙ len
