-- Registers are found where they stand, and stand in one plan alone.
use Rattle.std.proofs.Common.{◌≡◌, ◌≢◌, ◌∙◌, ℕ, ◌<◌, Bool, Some, None, slice_get, sym, ap, subst, arith}
use Rattle.std.specs.List.{Contains}
use Rattle.spv_base.specs.declared.instructions.Inst.{Inst}
use Rattle.spv_valid.specs.Acceptance.{Accepted, IsAccepted}
use Rattle.spv_valid.specs.Validity.{IsValid}
use Rattle.spv_valid.specs.declared.meanings.Meaning.TheVariants.{Register as Registered}
use Rattle.spv_frame.specs.declared.functions.Register.{Register}
use Rattle.spv_frame.specs.declared.slots.Place.{Place}
use Rattle.spv_frame.specs.declared.slots.Place.TheVariants.{Value, Pointer}
use Rattle.spv_frame.specs.Registers.{Planned, ids, number_of}
use Rattle.spv_plans.specs.Plans.{functions_in, id_at, plan_of, plans_in}
use Rattle.spv_plans.specs.Registered.{IsAbsent, IsAt, IsFound, MeansRegister, register}
use Rattle.spv_plans.specs.Registers.{has_cells, has_pointer}
use Rattle.spv_plans.proofs.ComesLemmas.{Comes, one_home, one_kind, pointer_comes, value_comes}
use Rattle.spv_plans.proofs.DefinedLemmas.{meant}
use Rattle.spv_plans.proofs.FunctionLemmas.{functions_apart}
use Rattle.spv_plans.proofs.NumberLemmas.{contains_at, number_gets, number_none, same_element}
use Rattle.spv_plans.proofs.PlacedLemmas.{at_place, found_of, pointer_read, read_of, value_read}
use Rattle.spv_plans.proofs.PlanOfLemmas.{apart, plan_at, plan_from}

-- the register at a place of a plan comes from an instruction
pub record ComesSomehow (a : Accepted) (function id : ℕ) : Type 0 where
  pub test : Inst → Bool
  pub comes : Comes a test function id

pub comes_at : (a : Accepted) (function id : ℕ) (place : Place) → id_at (plan_of a function).values (plan_of a function).pointers place ≡ Some id → ComesSomehow a function id
comes_at a function id (Value n) h = record { test = has_cells a.types; comes = (value_comes a function n id h).comes }
comes_at a function id (Pointer n) h = record { test = has_pointer a.types; comes = pointer_comes a function n id h }

-- a plan that is one of the module, as its function gives it
pub comes_from : (a : Accepted) (k id : ℕ) (p : Planned) (place : Place) → slice_get (plans_in a) k ≡ Some p → id_at p.values p.pointers place ≡ Some id → ComesSomehow a p.function id
comes_from a k id p place at h =
    let is : p ≡ plan_of a p.function = (plan_from a k p at).is in
    comes_at a p.function id place (subst (λ (q : Planned). id_at q.values q.pointers place ≡ Some id) is h)

module _ (valid : (a : Accepted) → IsAccepted a → IsValid a) (a : Accepted) (accepted : ∥ IsAccepted a ∥₁) where
  -- the plan of another function has no such register
  absent_of : (test : Inst → Bool) (f g id : ℕ) → Comes a test f id → g ≢ f → IsAbsent id (plan_of a g)
  absent_of test f g id c differ = record {
    values = number_none id (ids (plan_of a g).values)
        (λ n h. differ (one_home valid a accepted (has_cells a.types) test g f id (value_comes a g n id (number_gets id (ids (plan_of a g).values) n h)).comes c));
    pointers = number_none id (plan_of a g).pointers
        (λ n h. differ (one_home valid a accepted (has_pointer a.types) test g f id (pointer_comes a g n id (number_gets id (plan_of a g).pointers n h)) c));
  }

  absent_from : (test : Inst → Bool) (f id k : ℕ) (p : Planned) → Comes a test f id → slice_get (plans_in a) k ≡ Some p → p.function ≢ f → IsAbsent id p
  absent_from test f id k p c at differ = subst (IsAbsent id) (sym (plan_from a k p at).is) (absent_of test f p.function id c differ)

  -- those before the plan of a function are plans of other ones
  absent_before : (test : Inst → Bool) (f id k : ℕ) → Comes a test f id → slice_get (functions_in a) k ≡ Some f → (j : ℕ) (p : Planned) → j < k → slice_get (plans_in a) j ≡ Some p → IsAbsent id p
  absent_before test f id k c here j p less at =
      absent_from test f id j p c at (λ same.
      let first : number_of f (functions_in a) ≡ Some k = functions_apart valid a accepted k f here in
      let second : number_of f (functions_in a) ≡ Some j
      = functions_apart valid a accepted j f (subst (λ (g : ℕ). slice_get (functions_in a) j ≡ Some g) same (plan_from a j p at).at) in
      let both : Some k ≡ Some j = sym first ∙ second in
      let clash : k ≡ j = cc in
      omega arith)

  pub value_found : (f n id : ℕ) → Contains (functions_in a) f → slice_get (ids (plan_of a f).values) n ≡ Some id → IsFound a f id (Value n)
  value_found f n id has h =
      let k = contains_at (functions_in a) f has in
      let at : slice_get (plans_in a) k.0 ≡ Some (plan_of a f) = plan_at a k.0 f k.1 in
      let number : number_of id (ids (plan_of a f).values) ≡ Some n = (apart valid a accepted f).values n id h in
      record {
        plan = k.0;
        at = at;
        found = read_of (plans_in a) k.0 (plan_of a f) id (at_place k.0 (Value n)) at (absent_before (has_cells a.types) f id k.0 (value_comes a f n id h).comes k.1)
            (value_read k.0 (plan_of a f) id n number);
      }

  pub pointer_found : (f n id : ℕ) → Contains (functions_in a) f → slice_get (plan_of a f).pointers n ≡ Some id → IsFound a f id (Pointer n)
  pointer_found f n id has h =
      let k = contains_at (functions_in a) f has in
      let at : slice_get (plans_in a) k.0 ≡ Some (plan_of a f) = plan_at a k.0 f k.1 in
      let c = pointer_comes a f n id h in
      let number : number_of id (plan_of a f).pointers ≡ Some n = (apart valid a accepted f).pointers n id h in
      let none : number_of id (ids (plan_of a f).values) ≡ None
      = number_none id (ids (plan_of a f).values) (λ m g. one_kind valid a accepted f f id (value_comes a f m id (number_gets id (ids (plan_of a f).values) m g)).comes c) in
      record {
        plan = k.0;
        at = at;
        found = read_of (plans_in a) k.0 (plan_of a f) id (at_place k.0 (Pointer n)) at (absent_before (has_pointer a.types) f id k.0 c k.1) (pointer_read k.0 (plan_of a f) id n none number);
      }

  pub stands_once : (id : ℕ) (r : Register) → register a id ≡ Some r → IsAt a id r
  stands_once id r h =
      let f = found_of (plans_in a) id r h in
      let c = comes_from a r.plan id f.plan r.place f.numbered f.at in
      record {
        plan = f.plan;
        at = f.numbered;
        stands = f.at;
        alone = λ k other at differ. absent_from c.test f.plan.function id k other c.comes at differ;
      }

  pub register_meant : (id : ℕ) (r : Register) (p : Planned) → register a id ≡ Some r → slice_get (plans_in a) r.plan ≡ Some p → MeansRegister a id p.function
  register_meant id r p h at =
      let f = found_of (plans_in a) id r h in
      let c = comes_from a r.plan id f.plan r.place f.numbered f.at in
      let same : f.plan ≡ p = same_element (slice_get (plans_in a) r.plan) f.plan p f.numbered at in
      meant valid a accepted c.test f.plan.function id c.comes ∙ ap (λ (q : Planned). Some (Registered q.function)) same
