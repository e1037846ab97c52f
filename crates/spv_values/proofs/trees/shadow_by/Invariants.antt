use Rattle.spv_values.proofs.trees.shadow_by.Given as goal

abbrev pub ghost-by : goal.ghost-by
ghost-by a = a._first.now
