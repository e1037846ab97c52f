use Rattle.spv_control.proofs.PhiLemmas.{phis_keep}
use Rattle.spv_control.proofs.kept_control.phis_are_kept.Goals as goal

pub returns : goal.returns
returns c = phis_keep c.args.site.now.program.accepted c.accepted.result.now c.accepted.ensures c.insts-insts.ensures.accepted c.insts-insts.ensures.valid c.args.site.now.frame.plan.function c.args.block c.requires
