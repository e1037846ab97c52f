use Rattle.spv_base.specs.Counting.{Uncounts}
use Rattle.spv_probe.specs.Kits.{Alike}
use Rattle.spv_probe.proofs.PlaceLemmas.{FirstDo}
use Rattle.spv_probe.proofs.kit.Kit.back.Given as goal

abbrev pub invariant-loop-slot : goal.invariant-loop-slot
invariant-loop-slot g l = FirstDo (Alike (Uncounts (λ b. (goal.Probe-dyn g (b.vtable, b.value)).tally b.value) (λ b. (goal.Probe-dyn g (b.vtable, b.value)).test b.value) l.fn.h)) l.slot-index l.initial.slot-items l.slot-items
