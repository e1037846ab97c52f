use Rattle.std.proofs.lemmas.Result.{on_ok_weaker}
use Rattle.spv_show.proofs.ElementLemmas.{counted_shape}
use Rattle.spv_show.proofs.values.row_text.Goals as goal

pub returns-clause-ok : goal.returns-clause-ok
returns-clause-ok c = on_ok_weaker c.open_row_text.result (λ text v row. text v (counted_shape 0 c.args.types.now c.args.ty v row.shape row.counted) row.row) c.open_row_text.ensures.ok
