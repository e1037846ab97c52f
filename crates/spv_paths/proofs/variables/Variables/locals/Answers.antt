use Rattle.std.proofs.Common.{◌≡◌, ◌∙◌, ℕ, List, sym}
use Rattle.std.specs.Prelude.{IfOk, Result, Ok, Err}
use Rattle.spv_base.specs.declared.causes.NoMemory.{NoMemory}
use Rattle.spv_paths.specs.Kept.{ids_under}
use Rattle.spv_paths.proofs.VariableLemmas.{index_locals}
use Rattle.spv_paths.proofs.variables.Variables.locals.Goals as goal

led : (ids whole : List ℕ) (r : Result (List ℕ) NoMemory) → ids ≡ whole → IfOk r (λ x. x ≡ ids) → IfOk r (λ x. x ≡ whole)
led ids whole (Ok x) same e = e ∙ same
led ids whole (Err x) same e = e

pub returns : goal.returns
returns c = led _ _ c.push_from.result (index_locals c.args.tables.now c.args.self.now c.requires (ids_under c.self.inside.locals) (rw (sym c.self.view_is) c.self.invariant) c.args.scope) c.push_from.ensures
