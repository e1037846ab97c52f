use Rattle.std.proofs.Common.{rules}
use Rattle.std.specs.Prelude.{◌<◌, IsTrue, IfSome}
use Rattle.spv_probe.proofs.PlaceLemmas.{first_holds, first_step, first_back}
use Rattle.spv_probe.proofs.FollowLemmas.{follows_back}
use Rattle.spv_probe.proofs.kit.Kit.back.Goals as goal

pub back-requires : goal.back-requires
back-requires g c = first_holds _ (λ s. IfSome s (λ p. IsTrue ((goal.Probe-dyn g (p.vtable, p.value)).test p.value c.args.h.now) → 0 < (goal.Probe-dyn g (p.vtable, p.value)).tally p.value)) _ _ _ _ c.slot-item.result c.loop-slot.invariant c.deref_mut-slot-items.ensures.value c.loop-slot-test.true c.requires

pub loop-slot-preserved : goal.loop-slot-preserved
loop-slot-preserved g c = first_step _ _ _ _ c.slot-item.result _ c.loop-slot.invariant c.loop-slot-test.true c.back.ensures

pub returns-clause-counts : goal.returns-clause-counts
returns-clause-counts g c = first_back _ _ _ _ _ _ c.loop-slot.invariant c.deref_mut-slot-items.ensures.value (search rules) (search rules)

pub returns-clause-follows : goal.returns-clause-follows
returns-clause-follows g c = λ tests events follows. follows_back (λ b. (goal.Probe-dyn g (b.vtable, b.value)).tally b.value) (λ b. (goal.Probe-dyn g (b.vtable, b.value)).test b.value) c.args.h.now tests events _ _ (first_back _ _ _ _ _ _ c.loop-slot.invariant c.deref_mut-slot-items.ensures.value (search rules) (search rules)) follows
