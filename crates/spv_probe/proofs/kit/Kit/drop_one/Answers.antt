use Rattle.std.proofs.Common.{◌-◌, refl}
use Rattle.spv_probe.proofs.FollowLemmas.{follows_drop}
use Rattle.spv_probe.proofs.kit.Kit.drop_one.Goals as goal

pub returns-clause-follows : goal.returns-clause-follows
returns-clause-follows g c = follows_drop (λ b. (goal.Probe-dyn g (b.vtable, b.value)).tally b.value) (λ b. (goal.Probe-dyn g (b.vtable, b.value)).test b.value) (c.args.k - 1) c.args.self.now.boxes.items _ refl
