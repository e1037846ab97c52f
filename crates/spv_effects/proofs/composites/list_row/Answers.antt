use Rattle.std.proofs.Common.{◌∙◌, sym, ap}
use Rattle.spv_types.specs.Rows.{leaves}
use Rattle.spv_types.proofs.Exports.{leaves_many}
use Rattle.spv_effects.proofs.composites.list_row.Goals as goal

pub with_tree-requires : goal.with_tree-requires
with_tree-requires c = ap leaves c.list_tree-tree.ensures ∙ leaves_many c.args.parts.now ∙ sym c.requires

pub returns-clause-row : goal.returns-clause-row
returns-clause-row c = ap leaves (c.with_tree.ensures ∙ c.list_tree-tree.ensures) ∙ leaves_many c.args.parts.now ∙ sym c.requires
