use Rattle.spv_computing.proofs.ConstituentLemmas.{Gathers}
use Rattle.spv_computing.proofs.computing_composites.constituents.Given as goal

abbrev pub invariant-loop-n : goal.invariant-loop-n
invariant-loop-n l = Gathers l.site l.values.items l.n
