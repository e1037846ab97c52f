use Rattle.spv_probe.proofs.FollowLemmas.{follows_count}
use Rattle.spv_probe.proofs.kit.Kit.count.Goals as goal

pub returns-clause-follows : goal.returns-clause-follows
returns-clause-follows g c = follows_count (λ b. (goal.Probe-dyn g (b.vtable, b.value)).tally b.value) (λ b. (goal.Probe-dyn g (b.vtable, b.value)).test b.value) c.args.k c.deref.result.now c.args.self.now.boxes.items c.count.result c.deref.ensures.value c.count.ensures
