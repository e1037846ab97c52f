use Rattle.spv_index.proofs.IndexLemmas.{fewer}
use Rattle.spv_index.proofs.index.Index.insts.Goals as goal

pub returns-clause-few : goal.returns-clause-few
returns-clause-few c = rw c.insts.ensures.insts (fewer _ c.insts.ensures.decoded)
