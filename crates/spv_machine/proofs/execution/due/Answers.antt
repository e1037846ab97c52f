use Rattle.std.proofs.Common.{sym}
use Rattle.spv_machine.proofs.StatusSteps.{step_by}
use Rattle.spv_machine.proofs.SingleLemmas.{single_by}
use Rattle.spv_machine.proofs.WeightLemmas.{weight_by}
use Rattle.spv_machine.proofs.execution.due.Goals as goal

pub returns-clause-due : goal.returns-clause-due
returns-clause-due c =
    step_by c.args.m.now c.args.whole.now c.args.inv c.args.inst.now c.in-Some.frame.now c.effect_at.new.row c.effect_at.result c.requires.reached (sym c.in-Some.ensures) c.effect_at.ensures.due

pub returns-clause-weight : goal.returns-clause-weight
returns-clause-weight c =
    weight_by c.args.m.now c.args.whole.now c.args.inv c.args.inst.now c.in-Some.frame.now c.effect_at.new.row c.effect_at.result c.requires.reached (sym c.in-Some.ensures) c.effect_at.ensures.due

pub returns-clause-single : goal.returns-clause-single
returns-clause-single c =
    single_by c.args.m.now c.args.whole.now c.args.inv c.args.inst.now c.in-Some.frame.now c.effect_at.new.row c.effect_at.result c.effect_at.ensures.due
