use Rattle.std.proofs.Common.{rules}
use Rattle.std.specs.Prelude.{◌<◌, ◌^◌, ◌-◌, IfSome}
use Rattle.spv_probe.proofs.PlaceLemmas.{first_holds, first_step, first_back}
use Rattle.spv_probe.proofs.FollowLemmas.{follows_forth}
use Rattle.spv_probe.proofs.kit.Kit.forth.Goals as goal

pub forth-requires : goal.forth-requires
forth-requires g c = first_holds _ (λ s. IfSome s (λ p. (goal.Probe-dyn g (p.vtable, p.value)).tally p.value < 2 ^ 64 - 1)) _ _ _ _ c.slot-item.result c.loop-slot.invariant c.deref_mut-slot-items.ensures.value c.loop-slot-test.true c.requires

pub loop-slot-preserved : goal.loop-slot-preserved
loop-slot-preserved g c = first_step _ _ _ _ c.slot-item.result _ c.loop-slot.invariant c.loop-slot-test.true c.forth.ensures

pub returns-clause-counts : goal.returns-clause-counts
returns-clause-counts g c = first_back _ _ _ _ _ _ c.loop-slot.invariant c.deref_mut-slot-items.ensures.value (search rules) (search rules)

pub returns-clause-follows : goal.returns-clause-follows
returns-clause-follows g c = λ tests events follows. follows_forth (λ b. (goal.Probe-dyn g (b.vtable, b.value)).tally b.value) (λ b. (goal.Probe-dyn g (b.vtable, b.value)).test b.value) c.args.h.now tests events _ _ (first_back _ _ _ _ _ _ c.loop-slot.invariant c.deref_mut-slot-items.ensures.value (search rules) (search rules)) follows
