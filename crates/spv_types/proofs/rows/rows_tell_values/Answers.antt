use Rattle.spv_types.proofs.RowValues.{rows_tell}
use Rattle.spv_types.proofs.rows.rows_tell_values.Goals as goal

pub returns : goal.returns
returns c = rows_tell
