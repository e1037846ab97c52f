use Rattle.spv_base.specs.Parts.{with_part}
use Rattle.spv_values.proofs.trees.replaced_by.Given as goal

abbrev pub ghost-by : goal.ghost-by
ghost-by a = with_part a.self.now.value a._first.now.value a._second.now.value
