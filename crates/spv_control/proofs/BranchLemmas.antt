-- What branches and switches do, by what is read for them.
use Rattle.std.proofs.Common.{◌≡◌, ◌∙◌, ℕ, ◌++◌, List, [], ◌∷◌, append_assoc, true, false, Option, Some, None, Result, Ok, Err, ok_or, refl, sym, ap, subst}
use Rattle.std.specs.Option.{option_map}
use Rattle.spv_base.specs.Answers.{Answers}
use Rattle.spv_base.specs.Cell.{Cell}
use Rattle.spv_base.specs.declared.causes.Fail.{Fail}
use Rattle.spv_base.specs.declared.causes.Fail.TheVariants.{Refused, NoMemory}
use Rattle.spv_base.specs.declared.values.Value.{Value, Scalar}
use Rattle.spv_base.proofs.Exports.{out_scalar}
use Rattle.spv_ops.specs.Steps.{◌>>=◌}
use Rattle.spv_index.specs.Operands.{id_operand}
use Rattle.spv_state.specs.Actions.{action_of}
use Rattle.spv_state.specs.State.{depth_of}
use Rattle.spv_state.specs.declared.actions.Action.TheVariants.{Branch, BranchConditional, Switch}
use Rattle.spv_sites.specs.Branches.{deciding_number, jump_by, chosen_label, switch_label}
use Rattle.spv_sites.specs.Effects as spec
use Rattle.spv_sites.specs.Phis.{block_at, phi_values, phis_of}
use Rattle.spv_sites.specs.Planned.{IsDue}
use Rattle.spv_sites.specs.Sites.{Finds, Site, accepted, due, values}
use Rattle.spv_sites.specs.declared.causes.Cause.{Cause}
use Rattle.spv_sites.specs.declared.causes.Cause.TheVariants.{NoValue, UndefinedBranch}
use Rattle.spv_sites.specs.declared.effects.Effect.{Effect}
use Rattle.spv_sites.proofs.Exports.{due_by}

-- ---- to a block

abbrev pub jumps : Site → Option ℕ → Result spec.Effect Cause
jumps x label = jump_by x.program x.state x.inv x.frame x.inst label

-- the phis of a block in the frame of a site
abbrev pub taken : Site → ℕ → Option (List (ℕ × Value))
taken x block = phi_values (accepted x) x.frame (depth_of x.state x.inv) (block_at (accepted x).insts x.inst.word) (phis_of (accepted x).insts block)

-- ---- by a value

abbrev pub jumps_by : Site → (ℕ → Option ℕ) → Result spec.Effect Cause
jumps_by x label = ok_or (values x 0) NoValue >>= (λ (v : Value). deciding_number v >>= (λ (n : ℕ). jumps x (label n)))

module _ (x : Site) (label : ℕ → Option ℕ) where
  pub by_missing : values x 0 ≡ None → jumps_by x label ≡ Err NoValue
  by_missing none = ap (λ (o : Option Value). ok_or o NoValue >>= (λ (v : Value). deciding_number v >>= (λ (n : ℕ). jumps x (label n)))) none

  pub by_undefined : (v : Value) (cause : Cause) → values x 0 ≡ Some v → deciding_number v ≡ Err cause → jumps_by x label ≡ Err cause
  by_undefined v cause value undefined =
      ap (λ (o : Option Value). ok_or o NoValue >>= (λ (u : Value). deciding_number u >>= (λ (n : ℕ). jumps x (label n)))) value
      ∙ ap (λ (r : Result ℕ Cause). r >>= (λ (n : ℕ). jumps x (label n))) undefined

  pub by_number : (v : Value) (n : ℕ) → values x 0 ≡ Some v → deciding_number v ≡ Ok n → jumps_by x label ≡ jumps x (label n)
  by_number v n value number =
      ap (λ (o : Option Value). ok_or o NoValue >>= (λ (u : Value). deciding_number u >>= (λ (m : ℕ). jumps x (label m)))) value
      ∙ ap (λ (r : Result ℕ Cause). r >>= (λ (m : ℕ). jumps x (label m))) number

-- ---- the instructions

pub branch_due : (x : Site) → action_of x.inst ≡ Branch → due x ≡ jumps x (id_operand x.inst 0)
branch_due x is = due_by x Branch is

pub condition_due : (x : Site) → action_of x.inst ≡ BranchConditional → due x ≡ jumps_by x (chosen_label x.inst)
condition_due x is = due_by x BranchConditional is

pub switch_due : (x : Site) → action_of x.inst ≡ Switch → due x ≡ jumps_by x (switch_label (accepted x).insts x.inst)
switch_due x is = due_by x Switch is

-- ---- as the calls answer

-- what is due under another name
pub due_as : (a b : Result spec.Effect Cause) (v : Value) (r : Result Effect (Fail Cause)) → a ≡ b → IsDue b v r → IsDue a v r
due_as a b v r same h = subst (λ (c : Result spec.Effect Cause). IsDue c v r) (sym same) h

-- an answer that something has no value, or that memory ran out
pub found_due : {T : Type 0} (a : Result spec.Effect Cause) (v : Value) (o : Option T) (e : Fail Cause) (r : Result Effect (Fail Cause)) → (o ≡ None → a ≡ Err NoValue) → Finds {T = T} o (Err e) → r ≡ Err e → IsDue a v r
found_due a v o (Refused cause) r gives h same = subst (λ (s : Result Effect (Fail Cause)). IsDue a v s) (sym same) (gives h.0 ∙ ap (λ (k : Cause). Err k) (sym h.1))
found_due a v o NoMemory r gives h same = subst (λ (s : Result Effect (Fail Cause)). IsDue a v s) (sym same) tt

-- an answer that a value is undefined
pub answer_due : (a : Result spec.Effect Cause) (v : Value) (n : Result ℕ Cause) (e : Fail Cause) (r : Result Effect (Fail Cause)) → ((cause : Cause) → n ≡ Err cause → a ≡ Err cause) → Answers n (Err e) → r ≡ Err e → IsDue a v r
answer_due a v n (Refused cause) r gives h same = subst (λ (s : Result Effect (Fail Cause)). IsDue a v s) (sym same) (gives cause h)
answer_due a v n NoMemory r gives h same = subst (λ (s : Result Effect (Fail Cause)). IsDue a v s) (sym same) tt

-- ---- the number of a scalar

pub number_defined : (v : Value) (c : Cell) → v ≡ Scalar c → c.defined ≡ true → deciding_number v ≡ Ok c.bits
number_defined v c is defined = ap deciding_number is ∙ rw (out_scalar c) (rw defined refl)

pub number_undefined : (v : Value) (c : Cell) → v ≡ Scalar c → c.defined ≡ false → deciding_number v ≡ Err UndefinedBranch
number_undefined v c is undefined = ap deciding_number is ∙ rw (out_scalar c) (rw undefined refl)

-- ---- the phis that have taken their values so far

module _ {R : Type 0} where
  pub joined : (rs : List R) (r : R) (o : Option (List R)) → option_map (λ (us : List R). rs ++ us) (option_map (λ (us : List R). r ∷ us) o) ≡ option_map (λ (us : List R). (rs ++ r ∷ []) ++ us) o
  joined rs r None = refl
  joined rs r (Some us) = ap (λ (ws : List R). Some ws) (sym (append_assoc rs (r ∷ []) us))
