-- What is kept by barriers at which a run has come, and what is due there.
use Rattle.std.proofs.Common.{◌≡◌, ◌∙◌, ℕ, Bool, true, false, cond, List, [], ◌∷◌, find, Option, Some, None, IsSome, Ok, Err, refl, sym, ap, Result, ok_or}
use Rattle.std.specs.Prelude.{◌==◌}
use Rattle.std.proofs.Math.Logic.{∥∥₁_elim}
use Rattle.std.proofs.Props.{props}
use Rattle.std.specs.Coded.{codes}
use Rattle.std.specs.Option.{ok_or}
use Rattle.std.proofs.lemmas.Bool.{eqb-true}
use Rattle.spv_base.specs.Answers.{Answers}
use Rattle.spv_base.specs.declared.causes.Fail.{Fail}
use Rattle.spv_base.specs.declared.causes.Fail.TheVariants.{Refused, NoMemory}
use Rattle.spv_base.specs.declared.instructions.Inst.{Inst}
use Rattle.spv_base.specs.declared.values.Value.{Value}
use Rattle.spv_index.specs.Definitions.{at, stands_at}
use Rattle.spv_bodies.specs.Rules.{atomic_rule, composite_rule, control_rule, memory_rule, other_rule}
use Rattle.spv_valid.specs.Acceptance.{Accepted, IsAccepted}
use Rattle.spv_valid.specs.Validity.{IsValid}
use Rattle.spv_state.specs.Actions.{action_of}
use Rattle.spv_state.specs.declared.actions.Action.TheVariants.{ControlBarrier, MemoryBarrier}
use Rattle.spv_sites.specs.Effects.{Next, Wait, goes, passes}
use Rattle.spv_sites.specs.Fits.{ControlFits}
use Rattle.spv_sites.specs.Sites.{IsMissing, IsSite, Site, accepted, values, first_of_three, due}
use Rattle.spv_sites.specs.declared.causes.Cause.{Cause}
use Rattle.spv_sites.specs.declared.causes.Cause.TheVariants.{NoValue}
use Rattle.spv_sites.proofs.Exports.{operand, ok_then, err_then, acting, is_plain_code, RulesAreTested, plain_next, due_by}
use Rattle.spv_ops.specs.Steps.{◌>>=◌}

-- ---- words

-- the instruction that is found at a word stands there
found_here : (insts : List Inst) (word : ℕ) (d : Inst) → find (stands_at word) insts ≡ Some d → d.word ≡ word
found_here [] word d h = absurd (cc)
found_here (i ∷ is) word d h = by_test (i.word == word) refl h (found_here is word d)
  where
    by_test : (b : Bool) → (i.word == word) ≡ b → cond b (Some i) (find (stands_at word) is) ≡ Some d → (find (stands_at word) is ≡ Some d → d.word ≡ word) → d.word ≡ word
    by_test true e h rest = let same : i ≡ d = cc in ap (λ (j : Inst). j.word) (sym same) ∙ eqb-true i.word word e
    by_test false e h rest = rest h

at_word : (insts : List Inst) (word : ℕ) (d : Inst) → at insts word ≡ Some d → d.word ≡ word
unfolding at
at_word insts word d h = found_here insts word d h

-- ---- at a site

module _ (law : RulesAreTested) (x : Site) (m : Accepted) (same : m ≡ accepted x) (accepts : ∥ IsAccepted m ∥₁) (valid : ∥ IsValid m ∥₁) (site : ∥ IsSite x ∥₁) where
  fence_plain : (op : ℕ) → op ≡ 225 → is_plain_code op ≡ true
  unfolding memory_rule atomic_rule composite_rule control_rule other_rule
  fence_plain op is = ap is_plain_code is

  pub fence_next : action_of x.inst ≡ MemoryBarrier → ControlFits (accepted x) x.inst Next
  fence_next is = plain_next law x m same accepts valid site (fence_plain x.inst.op (acting x.inst MemoryBarrier is))

-- the module keeps what is asked of the wait
pub barrier_waits : (x : Site) → ∥ IsSite x ∥₁ → action_of x.inst ≡ ControlBarrier → ControlFits (accepted x) x.inst Wait
barrier_waits x site is = (x.inst, there, acting x.inst ControlBarrier is)
  where
    there : at (accepted x).insts x.inst.word ≡ Some x.inst
    there = ∥∥₁_elim site (hlevel (props, codes)) (λ (s : IsSite x). ap (at (accepted x).insts) (at_word (accepted x).insts x.frame.pc x.inst s.stands) ∙ s.stands)

-- ---- operands that are asked for

pub asked : (x : Site) (n : ℕ) → IsSome (values x n) → (v : Value) × (operand x n ≡ Ok v)
asked x n there = by_value (values x n) refl there
  where
    by_value : (o : Option Value) → values x n ≡ o → IsSome o → (v : Value) × (operand x n ≡ Ok v)
    by_value None e some = absurd (cc)
    by_value (Some v) e some = (v, ap (λ (p : Option Value). ok_or p NoValue) e)

pub missing : (x : Site) (n : ℕ) (e : Fail Cause) → IsMissing (values x n) e → Answers (operand x n) (Err e)
missing x n (Refused cause) h = ap (λ (p : Option Value). ok_or p NoValue) h.0 ∙ ap (λ (k : Cause). Err k) (sym h.1)
missing x n NoMemory h = tt

-- ---- the first of three operands

module _ (x : Site) where
  abbrev pub third : Value → Value → Result Value Cause
  third v u = operand x 2 >>= (λ (w : Value). Ok v)

  abbrev pub second : Value → Result Value Cause
  second v = operand x 1 >>= third v

  pub first_ok : (v u w : Value) → operand x 0 ≡ Ok v → operand x 1 ≡ Ok u → operand x 2 ≡ Ok w → first_of_three x ≡ Ok v
  first_ok v u w h g k = ok_then (operand x 0) second v h ∙ ok_then (operand x 1) (third v) u g ∙ ok_then (operand x 2) (λ (w : Value). Ok v) w k

  pub first_err : (cause : Cause) → operand x 0 ≡ Err cause → first_of_three x ≡ Err cause
  first_err cause h = err_then (operand x 0) second cause h

  pub second_err : (v : Value) (cause : Cause) → operand x 0 ≡ Ok v → operand x 1 ≡ Err cause → first_of_three x ≡ Err cause
  second_err v cause h g = ok_then (operand x 0) second v h ∙ err_then (operand x 1) (third v) cause g

  pub third_err : (v u : Value) (cause : Cause) → operand x 0 ≡ Ok v → operand x 1 ≡ Ok u → operand x 2 ≡ Err cause → first_of_three x ≡ Err cause
  third_err v u cause h g k = ok_then (operand x 0) second v h ∙ ok_then (operand x 1) (third v) u g ∙ err_then (operand x 2) (λ (w : Value). Ok v) cause k

-- ---- what is due

pub control_is : (x : Site) → action_of x.inst ≡ ControlBarrier → due x ≡ (first_of_three x >>= (λ (_ : Value). Ok (goes Wait)))
control_is x is = due_by x ControlBarrier is

pub memory_is : (x : Site) → action_of x.inst ≡ MemoryBarrier → due x ≡ (operand x 0 >>= (λ (_ : Value). operand x 1 >>= (λ (_ : Value). Ok passes)))
memory_is x is = due_by x MemoryBarrier is
