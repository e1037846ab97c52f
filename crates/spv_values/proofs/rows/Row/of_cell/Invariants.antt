use Rattle.std.specs.Prelude.{[]}
use Rattle.spv_base.specs.declared.values.Value.{List as Many}
use Rattle.spv_values.proofs.rows.Row.of_cell.Given as goal

-- any value, before the scalar's is put in its place
abbrev pub ghost-of : goal.ghost-of
ghost-of a = Many []
