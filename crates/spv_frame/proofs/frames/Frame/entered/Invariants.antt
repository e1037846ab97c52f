use Rattle.spv_frame.proofs.CallLemmas.{Filling}
use Rattle.spv_frame.proofs.frames.Frame.entered.Given as goal

abbrev pub invariant-loop-number : goal.invariant-loop-number
invariant-loop-number l = Filling l.plan.value l.arguments l.frame l.number
