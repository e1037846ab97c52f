use Rattle.std.proofs.Common.{[]}
use Rattle.spv_base.specs.declared.values.Value.{List as Many}
use Rattle.spv_effects.proofs.composites.list_tree.Given as goal

-- any value, before the parts' is put in its place
abbrev pub ghost-of : goal.ghost-of
ghost-of a = Many []
