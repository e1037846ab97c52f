use Rattle.spv_probe.proofs.FollowLemmas.{follows_hits}
use Rattle.spv_probe.proofs.kit.Kit.hits.Goals as goal

pub returns-clause-follows : goal.returns-clause-follows
returns-clause-follows g c = follows_hits (λ b. (goal.Probe-dyn g (b.vtable, b.value)).tally b.value) (λ b. (goal.Probe-dyn g (b.vtable, b.value)).test b.value) c.args.h.now c.args.k c.deref.result.now c.args.self.now.boxes.items c.hits.result c.deref.ensures.value c.hits.ensures
