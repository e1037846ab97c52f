use Rattle.spv_start.specs.Blocks.{value_in}
use Rattle.spv_initial.proofs.blocks.Block.tree_by.Given as goal

abbrev pub ghost-by : goal.ghost-by
ghost-by a = value_in a._first.now.types.now a._first.now.bytes.now a._first.now.size a._first.now.ty
