use Rattle.spv_base.specs.declared.values.Value.{List as Many}
use Rattle.spv_effects.proofs.composites.list_tree_by.Given as goal

abbrev pub ghost-by : goal.ghost-by
ghost-by a = Many a._first.now.now
