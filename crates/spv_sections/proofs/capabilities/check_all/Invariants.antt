use Rattle.spv_sections.proofs.CapabilityLemmas.{AreHere}
use Rattle.spv_sections.proofs.capabilities.check_all.Given as goal

-- no instruction so far is refused
abbrev pub invariant-loop-inst : goal.invariant-loop-inst
invariant-loop-inst l = AreHere l.pointers l.insts l.inst-index
