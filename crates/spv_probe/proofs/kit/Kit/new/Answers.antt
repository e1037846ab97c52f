use Rattle.spv_probe.proofs.FollowLemmas.{follows_new}
use Rattle.spv_probe.proofs.kit.Kit.new.Goals as goal

pub returns-clause-follows : goal.returns-clause-follows
returns-clause-follows g c = follows_new (λ b. (goal.Probe-dyn g (b.vtable, b.value)).tally b.value) (λ b. (goal.Probe-dyn g (b.vtable, b.value)).test b.value) c.args.probes.items _ c.in_ok-boxes.ensures c.requires.unused
