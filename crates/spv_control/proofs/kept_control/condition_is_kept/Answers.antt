use Rattle.spv_control.proofs.TargetLemmas.{condition_data, condition_leads, condition_scalar}
use Rattle.spv_control.proofs.kept_control.condition_is_kept.Goals as goal

pub returns-clause-data : goal.returns-clause-data
returns-clause-data c = condition_data c.args.site.now c.accepted.result.now c.accepted.ensures c.insts-insts.ensures.accepted c.insts-insts.ensures.valid c.is_reached.ensures c.requires

pub returns-clause-scalar : goal.returns-clause-scalar
returns-clause-scalar c = condition_scalar c.args.site.now c.accepted.result.now c.accepted.ensures c.insts-insts.ensures.accepted c.insts-insts.ensures.valid c.is_reached.ensures c.requires

pub returns-clause-entered : goal.returns-clause-entered
returns-clause-entered c = condition_leads c.args.site.now c.accepted.result.now c.accepted.ensures c.insts-insts.ensures.accepted c.insts-insts.ensures.valid c.is_reached.ensures c.requires
