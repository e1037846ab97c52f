use Rattle.std.proofs.Common.{◌∙◌, ap, arith, subst, sym}
use Rattle.spv_state.specs.Below.spv_plans.specs.Plans.{plans_in}
use Rattle.spv_valid.specs.Acceptance.{Accepted}
use Rattle.spv_state.specs.Events.{IsReadable}
use Rattle.spv_sites.specs.Sites.{IsSite, Site}
use Rattle.spv_sites.proofs.OperandLemmas.{inside_is, plans_are}
use Rattle.spv_sites.proofs.sites.Site.begun.Goals as goal

pub overflow_cast-depth : goal.overflow_cast-depth
overflow_cast-depth c = omega (arith, c.stack.ensures.bounded.within, c.stack.ensures.bounded.narrow, c.depth-depth.ensures)

pub stack-requires : goal.stack-requires
stack-requires c = inside_is _ c.self.invariant.1

pub pass_events-requires-clause-plans : goal.pass_events-requires-clause-plans
pass_events-requires-clause-plans c =
    let site = subst (λ (x : Site). ∥ IsSite x ∥₁) c.self.view_is c.self.invariant.1 in
    c.plans.ensures ∙ ap (λ (x : Site). x.state.plans) c.self.view_is ∙ plans_are c.args.self.now site ∙ ap plans_in (sym (ap (λ (x : Site). x.program.accepted) c.self.view_is))

pub pass_events-requires-clause-frame : goal.pass_events-requires-clause-frame
pass_events-requires-clause-frame c = subst (λ (a : Accepted). IsReadable a c.args.frame) (sym (ap (λ (x : Site). x.program.accepted) c.self.view_is)) c.requires
