use Rattle.spv_effects.specs.ExtendedOps.{extended_value}
use Rattle.spv_effects.proofs.extended_ops.extended_tree.Given as goal

abbrev pub ghost-by : goal.ghost-by
ghost-by a = extended_value a._first.now a.self.now.value a._second.now
