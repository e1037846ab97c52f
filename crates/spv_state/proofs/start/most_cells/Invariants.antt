use Rattle.spv_state.proofs.SizeLemmas.{AreWithin}
use Rattle.spv_state.proofs.start.most_cells.Given as goal

-- no register so far has more
abbrev pub invariant-loop-number : goal.invariant-loop-number
invariant-loop-number l = AreWithin l.plan.values l.number l.most
