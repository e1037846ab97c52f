use Rattle.std.proofs.Common.{◌∙◌, ap}
use Rattle.spv_types.specs.Rows.{leaves}
use Rattle.spv_effects.proofs.FormLemmas.{leaves_filled}
use Rattle.spv_effects.proofs.selects.filled_row.Goals as goal

pub with_tree-requires : goal.with_tree-requires
with_tree-requires c = ap leaves c.filled_tree-tree.ensures ∙ leaves_filled c.args.like.now c.args.cells.items c.requires

pub returns-clause-row : goal.returns-clause-row
returns-clause-row c = ap leaves (c.with_tree.ensures ∙ c.filled_tree-tree.ensures) ∙ leaves_filled c.args.like.now c.args.cells.items c.requires
