use Rattle.spv_state.proofs.SourceLemmas.{SoFar}
use Rattle.spv_state.proofs.predecoded.predecode.Given as goal

-- those of the instructions so far
abbrev pub invariant-loop-n : goal.invariant-loop-n
invariant-loop-n l = SoFar l.accepted l.list.items l.n
