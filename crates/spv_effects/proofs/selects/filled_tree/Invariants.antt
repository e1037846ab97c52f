use Rattle.spv_effects.specs.Forms.{with_leaves}
use Rattle.spv_effects.proofs.selects.filled_tree.Given as goal

abbrev pub ghost-by : goal.ghost-by
ghost-by a = with_leaves a.self.now.value a._first.now.items
