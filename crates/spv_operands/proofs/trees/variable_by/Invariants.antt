use Rattle.spv_operands.proofs.trees.variable_by.Given as goal

abbrev pub ghost-by : goal.ghost-by
ghost-by a = a._first.now
