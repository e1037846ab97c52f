use Rattle.spv_control.proofs.BarrierLemmas.{fence_next}
use Rattle.spv_control.proofs.kept_control.fence_is_kept.Goals as goal

pub returns : goal.returns
returns c = fence_next c.instructions_keep_their_rules.ensures.each c.args.site.now c.accepted.result.now c.accepted.ensures c.insts-insts.ensures.accepted c.insts-insts.ensures.valid c.is_reached.ensures c.requires
