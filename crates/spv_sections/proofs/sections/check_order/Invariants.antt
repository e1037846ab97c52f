use Rattle.spv_sections.proofs.OrderLemmas.{IsOrdered}
use Rattle.spv_sections.proofs.sections.check_order.Given as goal

-- no instruction so far is refused
abbrev pub invariant-loop-n : goal.invariant-loop-n
invariant-loop-n l = IsOrdered l.stands l.n l.reached
