use Rattle.spv_control.proofs.TargetLemmas.{branch_leads}
use Rattle.spv_control.proofs.kept_control.branch_is_kept.Goals as goal

pub returns : goal.returns
returns c = branch_leads c.args.site.now c.accepted.result.now c.accepted.ensures c.insts-insts.ensures.accepted c.insts-insts.ensures.valid c.is_reached.ensures c.requires
