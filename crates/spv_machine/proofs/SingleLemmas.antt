-- An AtomicCompareExchange that puts the old scalar back is recorded by one leaf, and goes on.
use Rattle.std.proofs.Common.{◌≡◌, ◌∙◌, ℕ, Result, Ok, Err, IfOk, length, refl, sym, ap, subst, arith}
use Rattle.std.specs.Prelude.{◌==◌}
use Rattle.std.proofs.lemmas.Bool.{and_parts, eqb-true}
use Rattle.spv_base.specs.Cell.{Cell}
use Rattle.spv_base.specs.declared.causes.Fail.{Fail}
use Rattle.spv_base.specs.declared.instructions.Inst.{Inst}
use Rattle.spv_base.specs.declared.values.Pointer.{Pointer}
use Rattle.spv_base.specs.declared.values.Value.{Value}
use Rattle.spv_ops.specs.Steps.{◌>>=◌}
use Rattle.spv_actions.specs.Below.spv_types.proofs.Exports.{leaves_scalar}
use Rattle.spv_frame.specs.Frames.{Held as Frame}
use Rattle.spv_sites.specs.Atomics.{atomic_row, compared_cell, exchanges, first_of_three, target}
use Rattle.spv_sites.specs.Effects.{Effect, operand, scalar}
use Rattle.spv_sites.specs.Instructions.{effect_of, row}
use Rattle.spv_sites.specs.Planned.{IsDue, shown}
use Rattle.spv_sites.specs.declared.causes.Cause.{Cause}
use Rattle.spv_sites.specs.declared.effects.Effect.{Effect as Planned}
use Rattle.spv_state.specs.Actions.{action_of, atomic_op}
use Rattle.spv_state.specs.Program.{Program}
use Rattle.spv_state.specs.State.{State}
use Rattle.spv_state.specs.declared.actions.Action.TheVariants.{Atomic}
use Rattle.spv_state.specs.declared.actions.AtomicOp.TheVariants.{CompareExchange}
use Rattle.spv_machine.specs.Recording.{IsSingle, IsSingleBack}

-- steps one after the other give something where each does
steps_ok : {A B R : Type 0} (r : Result A R) (f : A → Result B R) (y : B) → (r >>= f) ≡ Ok y → (x : A) × (f x ≡ Ok y)
steps_ok (Ok x) f y h = (x, h)
steps_ok (Err e) f y h = absurd (cc)

exchange_action : (d : Inst) → d.op ≡ 230 → action_of d ≡ Atomic CompareExchange
unfolding action_of atomic_op
exchange_action d op = rw op refl

single_exchange : (q : Pointer) (new old : Cell) (e : Effect) → exchanges q new old ≡ e → IsSingle e
single_exchange q new old e is = subst IsSingle is (record { leaves = let one = ap length (leaves_scalar new) in omega (arith, one); next = refl })

module _ (p : Program) (s : State) (i : ℕ) (f : Frame) (d : Inst) (e : Effect) where
  atomic_single : row p s i f d (Atomic CompareExchange) ≡ Ok e → IsSingle e
  unfolding atomic_row
  atomic_single h =
      let three = steps_ok (first_of_three p s i f d) _ e h in
      let semantics = steps_ok (operand p s i f d 3) _ e three.1 in
      let value = steps_ok (scalar p s i f d 4) _ e semantics.1 in
      let comparator = steps_ok (scalar p s i f d 5) _ e value.1 in
      let there = steps_ok (target s i three.0) _ e comparator.1 in
      let is : exchanges there.0.0 (compared_cell there.0.1 value.0 comparator.0) there.0.1 ≡ e = let own = there.1 in cc in
      single_exchange there.0.0 (compared_cell there.0.1 value.0 comparator.0) there.0.1 e is

  pub single_back : effect_of p s i f d ≡ Ok e → IsSingleBack p s i d e
  unfolding effect_of
  single_back h back =
      let op : d.op ≡ 230 = eqb-true d.op 230 (and_parts (d.op == 230) _ back).0 in
      atomic_single (sym (ap (row p s i f d) (exchange_action d op)) ∙ h)

pub single_by : (p : Program) (s : State) (i : ℕ) (d : Inst) (f : Frame) (v : Value) (result : Result Planned (Fail Cause)) → IsDue (effect_of p s i f d) v result
    → IfOk result (λ (e : Planned). IsSingleBack p s i d (shown e v))
single_by p s i d f v (Ok e) due = single_back p s i f d (shown e v) due
single_by p s i d f v (Err error) due = tt
