use Rattle.spv_control.proofs.PassingLemmas.{Begins}
use Rattle.spv_control.proofs.calls.frame_of.Given as goal

-- the parameters so far have their arguments
abbrev pub invariant-loop-number : goal.invariant-loop-number
invariant-loop-number l = Begins l.site l.function l.number l.frame
