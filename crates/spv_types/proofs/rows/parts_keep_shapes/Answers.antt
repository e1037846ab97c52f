use Rattle.spv_types.proofs.RowShapes.{shapes_keep}
use Rattle.spv_types.proofs.rows.parts_keep_shapes.Goals as goal

pub returns : goal.returns
returns c = shapes_keep
