use Rattle.spv_consts.specs.Trees.{value_at}
use Rattle.spv_operands.proofs.trees.constant_by.Given as goal

abbrev pub ghost-by : goal.ghost-by
ghost-by a = value_at a._first.now a._second.now.ty a._second.now.cells.now
