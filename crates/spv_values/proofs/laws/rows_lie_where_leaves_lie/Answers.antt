use Rattle.spv_values.proofs.RowLemmas.{row_at}
use Rattle.spv_values.proofs.laws.rows_lie_where_leaves_lie.Goals as goal

pub returns : goal.returns
returns c = row_at
