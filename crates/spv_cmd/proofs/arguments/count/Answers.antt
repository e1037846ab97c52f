use Rattle.spv_cmd.proofs.RowLemmas.{count_reads}
use Rattle.spv_cmd.proofs.arguments.count.Goals as goal

pub returns : goal.returns
returns c = count_reads c.args.arguments.now c.positive.result c.next_word.result c.is_none.result c.next_word.ensures c.is_none.ensures (cc) c.positive.ensures
