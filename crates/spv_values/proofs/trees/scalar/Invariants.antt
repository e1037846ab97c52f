use Rattle.spv_base.specs.declared.values.Value.{Scalar}
use Rattle.spv_values.proofs.trees.scalar.Given as goal

abbrev pub ghost-by : goal.ghost-by
ghost-by a = Scalar a._first.now
