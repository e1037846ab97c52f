use Rattle.std.proofs.Common.{◌∙◌, ℕ, List, ap, subst, sym}
use Rattle.std.proofs.lemmas.Result.{IfOk-weaker}
use Rattle.spv_initial.specs.Start.{variables}
use Rattle.spv_initial.specs.Variables.{HaveTargets, targets_of}
use Rattle.spv_mem.specs.Memory.{AreVariables}
use Rattle.spv_valid.specs.Acceptance.{Accepted}
use Rattle.spv_valid.specs.Validity.{IsValid}
use Rattle.spv_state.specs.Program.{Program}
use Rattle.spv_state.specs.Variables.{variables_of}
use Rattle.spv_state.proofs.Exports.{function_are}
use Rattle.spv_control.proofs.PassingLemmas.{locals_are}
use Rattle.spv_control.proofs.calls.locals_of.Goals as goal

pub local_variables-requires : goal.local_variables-requires
local_variables-requires c =
    function_are c.accepted-2.result.now c.args.site.now.program.accepted c.args.function c.variables-list.result.now c.accepted-2.ensures
    (subst (λ (a : Accepted). ∥ IsValid a ∥₁) (c.accepted.ensures ∙ sym c.accepted-2.ensures) c.insts-insts.ensures.valid)
    (c.variables-list.ensures ∙ ap (λ (p : Program). variables_of p.accepted c.args.function) c.program.ensures)

pub returns-clause-are : goal.returns-clause-are
returns-clause-are c =
    let a = c.args.site.now.program.accepted in
    IfOk-weaker c.local_variables.result (λ locals. (targets : List (ℕ × ℕ)) → HaveTargets targets c.variables-list.result.now → ∥ AreVariables c.accepted-2.result.now.types targets locals ∥₁)
    (AreVariables a.types (targets_of (variables a)))
    (λ locals may. locals_are a c.accepted-2.result.now c.args.function c.variables-list.result.now locals c.accepted-2.ensures (subst (λ (x : Accepted). ∥ IsValid x ∥₁) c.accepted.ensures c.insts-insts.ensures.valid)
    (c.variables-list.ensures ∙ ap (λ (p : Program). variables_of p.accepted c.args.function) c.program.ensures) may) c.local_variables.ensures.may
