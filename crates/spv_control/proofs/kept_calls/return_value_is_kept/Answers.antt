use Rattle.spv_control.proofs.CallLemmas.{return_fits, return_rooted}
use Rattle.spv_control.proofs.kept_calls.return_value_is_kept.Goals as goal

pub returns-clause-returns : goal.returns-clause-returns
returns-clause-returns c = return_fits c.args.site.now c.accepted.result.now c.accepted.ensures c.insts-insts.ensures.accepted c.insts-insts.ensures.valid c.is_reached.ensures c.requires

pub returns-clause-rooted : goal.returns-clause-rooted
returns-clause-rooted c = return_rooted c.args.site.now c.accepted.result.now c.accepted.ensures c.insts-insts.ensures.accepted c.insts-insts.ensures.valid c.is_reached.ensures c.requires
