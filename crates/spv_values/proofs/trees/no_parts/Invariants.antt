use Rattle.std.specs.Prelude.{[]}
use Rattle.spv_base.specs.declared.values.Value.{List as Many}
use Rattle.spv_values.proofs.trees.no_parts.Given as goal

abbrev pub ghost-by : goal.ghost-by
ghost-by a = Many []
