use Rattle.spv_index.proofs.IndexLemmas.{names_by}
use Rattle.spv_index.proofs.index.numbers_by_name.Goals as goal

pub returns : goal.returns
returns c = names_by c.args.insts.now c.in_ok-numbers.numbers (rw (← c.in_ok-ids.ensures, ← c.as_slice.ensures.value) c.in_ok-numbers.ensures)
