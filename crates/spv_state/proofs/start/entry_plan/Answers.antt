use Rattle.std.proofs.Common.{◌∙◌, ap}
use Rattle.spv_plans.specs.Plans.{plan_of}
use Rattle.spv_state.proofs.PlanLemmas.{entry_known}
use Rattle.spv_state.proofs.start.entry_plan.Goals as goal

pub plan_in-requires-clause-function : goal.plan_in-requires-clause-function
plan_in-requires-clause-function c = entry_known c.args.accepted.now c.entry.result c.entry.ensures.entry c.insts-insts.ensures.valid

pub returns : goal.returns
returns c = c.plan_in.ensures ∙ ap (plan_of c.args.accepted.now) c.entry.ensures.entry
