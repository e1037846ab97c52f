use Rattle.spv_types.proofs.RowChanges.{slot_has_row}
use Rattle.spv_types.proofs.rows.slots_have_rows.Goals as goal

pub returns : goal.returns
returns c = slot_has_row
