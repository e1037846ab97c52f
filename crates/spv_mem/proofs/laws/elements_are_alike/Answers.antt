use Rattle.spv_mem.proofs.ChainLemmas.{ptr_moved_reaches}
use Rattle.spv_mem.proofs.laws.elements_are_alike.Goals as goal

pub returns : goal.returns
returns c = ptr_moved_reaches
