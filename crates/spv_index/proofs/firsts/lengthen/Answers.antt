use Rattle.std.proofs.Common.{◌∙◌}
use Rattle.spv_index.proofs.SlotLemmas.{none_pushed}
use Rattle.spv_index.proofs.firsts.lengthen.Goals as goal

pub loop-slots-preserved : goal.loop-slots-preserved
loop-slots-preserved g c = λ q. rw c.in_ok-push.ensures.items (none_pushed c.loop-slots.slots.items q ∙ c.loop-slots.invariant q)
