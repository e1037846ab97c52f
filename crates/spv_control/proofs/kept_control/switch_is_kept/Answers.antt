use Rattle.spv_control.proofs.TargetLemmas.{selector_data, selector_scalar, switch_leads, switch_literals}
use Rattle.spv_control.proofs.kept_control.switch_is_kept.Goals as goal

pub returns-clause-data : goal.returns-clause-data
returns-clause-data c = selector_data c.args.site.now c.accepted.result.now c.accepted.ensures c.insts-insts.ensures.accepted c.insts-insts.ensures.valid c.is_reached.ensures c.requires

pub returns-clause-scalar : goal.returns-clause-scalar
returns-clause-scalar c = selector_scalar c.args.site.now c.accepted.result.now c.accepted.ensures c.insts-insts.ensures.accepted c.insts-insts.ensures.valid c.is_reached.ensures c.requires

pub returns-clause-literals : goal.returns-clause-literals
returns-clause-literals c = switch_literals c.args.site.now c.accepted.result.now c.accepted.ensures c.insts-insts.ensures.accepted c.insts-insts.ensures.valid c.is_reached.ensures c.requires

pub returns-clause-entered : goal.returns-clause-entered
returns-clause-entered c = switch_leads c.args.site.now c.accepted.result.now c.accepted.ensures c.insts-insts.ensures.accepted c.insts-insts.ensures.valid c.is_reached.ensures c.requires
