use Rattle.spv_index.proofs.IndexLemmas.{definitions_by}
use Rattle.spv_index.proofs.index.numbers_by_result.Goals as goal

pub returns : goal.returns
returns c = definitions_by _ _ (rw (← c.in_ok-ids.ensures, ← c.as_slice.ensures.value) c.in_ok-numbers.ensures)
