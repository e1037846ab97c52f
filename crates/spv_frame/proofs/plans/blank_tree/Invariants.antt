use Rattle.std.proofs.Common.{[]}
use Rattle.spv_base.specs.declared.values.Value.{List as Many}
use Rattle.spv_frame.proofs.plans.blank_tree.Given as goal

abbrev pub ghost-of : goal.ghost-of
ghost-of a = Many []
