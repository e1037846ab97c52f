use Rattle.spv_values.proofs.trees.same.Given as goal

abbrev pub ghost-by : goal.ghost-by
ghost-by a = a.self.now.value
