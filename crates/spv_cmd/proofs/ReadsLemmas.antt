-- Refusals of a part are refusals of the whole.
use Rattle.std.proofs.Common.{◌≡◌, Ok, Err, Result, sym, subst}
use Rattle.spv_base.specs.declared.causes.Fail.{Fail}
use Rattle.spv_base.specs.declared.causes.Fail.TheVariants.{Refused, NoMemory}
use Rattle.spv_base.specs.declared.causes.CmdRefusal.{CmdRefusal}
use Rattle.std.specs.Result.{IsErrAnd}
use Rattle.spv_cmd.specs.Answers.{Reads}

pub reads_err : {T U : Type 0} (P : T → Type 0) (Q : U → Type 0) (e : Fail CmdRefusal) → (((x : T) → ¬ P x) → (y : U) → ¬ Q y) → Reads P (Err e) → Reads Q (Err e)
reads_err P Q (Refused refusal) f h = (h.0, f h.1)
reads_err P Q NoMemory f h = h

pub reads_through : {T U : Type 0} (P : T → Type 0) (Q : U → Type 0) (e : Fail CmdRefusal) (r : Result U (Fail CmdRefusal)) → IsErrAnd r (λ other. other ≡ e) → (((x : T) → ¬ P x) → (y : U) → ¬ Q y) → Reads P (Err e) → Reads Q r
reads_through P Q e (Ok y) same f h = absurd same
reads_through P Q e (Err other) same f h = reads_err P Q other f (subst (λ (o : Fail CmdRefusal). Reads P (Err o)) (sym same) h)
