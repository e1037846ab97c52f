use Rattle.std.specs.Prelude.{[]}
use Rattle.spv_base.specs.declared.values.Value.{List as Many}
use Rattle.spv_operands.proofs.trees.of_constant.Given as goal

-- any value, before the right one is put in its place
abbrev pub ghost-of : goal.ghost-of
ghost-of a = Many []
