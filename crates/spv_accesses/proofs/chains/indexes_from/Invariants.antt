use Rattle.spv_accesses.proofs.ChainLemmas.{Reads}
use Rattle.spv_accesses.proofs.chains.indexes_from.Given as goal

abbrev pub invariant-loop-n : goal.invariant-loop-n
invariant-loop-n l = Reads l.site l.fn.first l.cells.items l.n
