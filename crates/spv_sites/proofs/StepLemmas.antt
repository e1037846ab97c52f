-- Steps that may fault, and what is due where one does.
use Rattle.std.proofs.Common.{◌≡◌, ◌∙◌, ℕ, Option, Result, Ok, Err, ok_or, sym, ap, None, subst}
use Rattle.spv_base.specs.Answers.{Answers}
use Rattle.spv_base.specs.declared.causes.Fail.{Fail}
use Rattle.spv_base.specs.declared.causes.Fail.TheVariants.{Refused, NoMemory}
use Rattle.spv_base.specs.declared.values.Value.{Value}
use Rattle.spv_valid.specs.Below.spv_ops.specs.Steps.{◌>>=◌}
use Rattle.spv_sites.specs.Sites.{Finds, Site, due, values}
use Rattle.spv_sites.specs.Effects.{gives, pointer}
use Rattle.spv_sites.specs.declared.causes.Cause.{Cause}
use Rattle.spv_sites.specs.declared.causes.Cause.TheVariants.{NoValue}
use Rattle.spv_sites.specs.Planned.{IsDue}
use Rattle.spv_sites.specs.declared.effects.Effect.{Effect}

-- ---- operands

-- that with a number
abbrev pub operand : Site → ℕ → Result Value Cause
operand x n = ok_or (values x n) NoValue

-- ---- steps

module _ {A B : Type 0} where
  pub ok_then : (r : Result A Cause) (f : A → Result B Cause) (v : A) → r ≡ Ok v → (r >>= f) ≡ f v
  ok_then r f v h = ap (λ (s : Result A Cause). s >>= f) h

  pub err_then : (r : Result A Cause) (f : A → Result B Cause) (cause : Cause) → r ≡ Err cause → (r >>= f) ≡ Err cause
  err_then r f cause h = ap (λ (s : Result A Cause). s >>= f) h

-- ---- as the calls answer

-- an answer that an operand has no value, or that memory ran out
pub no_value_due : (x : Site) (u : Value) (o : Option Value) (r : Result Effect (Fail Cause)) (e : Fail Cause) → (o ≡ None → due x ≡ Err NoValue) → Finds {T = Value} o (Err e) → r ≡ Err e → IsDue (due x) u r
no_value_due x u o r (Refused cause) gives h same =
    subst (λ (s : Result Effect (Fail Cause)). IsDue (due x) u s) (sym same) (gives h.0 ∙ ap (λ (k : Cause). Err k) (sym h.1))
no_value_due x u o r NoMemory gives h same = subst (λ (s : Result Effect (Fail Cause)). IsDue (due x) u s) (sym same) tt

-- an answer that a pointer names nothing, or that memory ran out
pub outside_due : {T : Type 0} (x : Site) (u : Value) (p : Result T Cause) (r : Result Effect (Fail Cause)) (e : Fail Cause) → ((cause : Cause) → p ≡ Err cause → due x ≡ Err cause) → Answers p (Err e) → r ≡ Err e → IsDue (due x) u r
outside_due x u p r (Refused cause) gives h same = subst (λ (s : Result Effect (Fail Cause)). IsDue (due x) u s) (sym same) (gives cause h)
outside_due x u p r NoMemory gives h same = subst (λ (s : Result Effect (Fail Cause)). IsDue (due x) u s) (sym same) tt
