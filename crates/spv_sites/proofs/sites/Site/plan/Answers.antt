use Rattle.std.proofs.Common.{◌∙◌, ap, subst, sym}
use Rattle.std.specs.List.{Contains}
use Rattle.spv_state.specs.Below.spv_plans.specs.Plans.{functions_in, plans_in}
use Rattle.spv_valid.specs.Acceptance.{Accepted}
use Rattle.spv_sites.specs.Sites.{IsSite, Site}
use Rattle.spv_sites.proofs.OperandLemmas.{plans_are}
use Rattle.spv_sites.proofs.sites.Site.plan.Goals as goal

pub plan_in-requires-clause-plans : goal.plan_in-requires-clause-plans
plan_in-requires-clause-plans c =
    let site = subst (λ (x : Site). ∥ IsSite x ∥₁) c.self.view_is c.self.invariant.1 in
    c.plans.ensures ∙ ap (λ (x : Site). x.state.plans) c.self.view_is ∙ plans_are c.args.self.now site
    ∙ ap plans_in (sym (c.accepted.ensures.module ∙ ap (λ (x : Site). x.program.accepted) c.self.view_is))

pub plan_in-requires-clause-function : goal.plan_in-requires-clause-function
plan_in-requires-clause-function c =
    subst (λ (a : Accepted). ∥ Contains (functions_in a) c.args.function ∥₁) (sym (c.accepted.ensures.module ∙ ap (λ (x : Site). x.program.accepted) c.self.view_is)) c.requires
