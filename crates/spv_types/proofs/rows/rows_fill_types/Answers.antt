use Rattle.spv_types.proofs.RowCounts.{shapes_count}
use Rattle.spv_types.proofs.rows.rows_fill_types.Goals as goal

pub returns : goal.returns
returns c = shapes_count
