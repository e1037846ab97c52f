use Rattle.spv_consts.specs.Trees.{value_at}
use Rattle.spv_initial.proofs.constants.Leaves.tree_by.Given as goal

abbrev pub ghost-by : goal.ghost-by
ghost-by a = value_at a._first.now.types.now a._first.now.ty a._first.now.cells.now
