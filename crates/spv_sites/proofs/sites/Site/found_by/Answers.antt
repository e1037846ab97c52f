use Rattle.std.proofs.Common.{◌∙◌, ap, subst, sym}
use Rattle.spv_valid.specs.Acceptance.{Accepted}
use Rattle.spv_state.specs.Below.spv_plans.specs.Plans.{plans_in}
use Rattle.spv_state.specs.Below.spv_plans.specs.Registered.{IsOfFunction}
use Rattle.spv_operands.specs.Shapes.{AreShaped}
use Rattle.spv_sites.specs.Sites.{IsSite, Site, accepted}
use Rattle.spv_sites.proofs.OperandLemmas.{are_shaped, of_function, plans_are}
use Rattle.spv_sites.proofs.sites.Site.found_by.Goals as goal

pub operand-requires-clause-plans : goal.operand-requires-clause-plans
operand-requires-clause-plans c =
    let site = subst (λ (x : Site). ∥ IsSite x ∥₁) c.self.view_is c.self.invariant.1 in
    c.plans.ensures ∙ ap (λ (x : Site). x.state.plans) c.self.view_is ∙ plans_are c.args.self.now site ∙ ap plans_in (sym c.accepted-accepted.ensures)

pub operand-requires-clause-frame : goal.operand-requires-clause-frame
operand-requires-clause-frame c =
    let site = subst (λ (x : Site). ∥ IsSite x ∥₁) c.self.view_is c.self.invariant.1 in
    subst (λ (a : Accepted). IsOfFunction a c.self.inside.frame.now.plan) (sym c.accepted-accepted.ensures)
    (subst (λ (x : Site). IsOfFunction (accepted c.args.self.now) x.frame.plan) (sym c.self.view_is) (of_function c.args.self.now site))

pub returns-clause-plain : goal.returns-clause-plain
returns-clause-plain c =
    let site = subst (λ (x : Site). ∥ IsSite x ∥₁) c.self.view_is c.self.invariant.1 in
    c.operand.ensures.plain (subst (λ (a : Accepted). ∥ AreShaped a c.self.inside.frame.now ∥₁) (sym c.accepted-accepted.ensures)
    (subst (λ (x : Site). ∥ AreShaped (accepted c.args.self.now) x.frame ∥₁) (sym c.self.view_is) (are_shaped c.args.self.now site)))
