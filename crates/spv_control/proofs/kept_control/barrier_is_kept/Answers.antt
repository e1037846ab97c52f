use Rattle.spv_control.proofs.BarrierLemmas.{barrier_waits}
use Rattle.spv_control.proofs.kept_control.barrier_is_kept.Goals as goal

pub returns : goal.returns
returns c = barrier_waits c.args.site.now c.is_reached.ensures c.requires
