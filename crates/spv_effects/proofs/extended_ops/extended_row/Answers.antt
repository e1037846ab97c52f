use Rattle.std.proofs.Common.{◌∙◌, sym, ap}
use Rattle.spv_types.specs.Rows.{leaves}
use Rattle.spv_effects.proofs.ExtendedLemmas.{leaves_of_two}
use Rattle.spv_effects.proofs.extended_ops.extended_row.Goals as goal

pub with_tree-requires : goal.with_tree-requires
with_tree-requires c = ap leaves c.extended_tree-tree.ensures ∙ leaves_of_two c.args.operation c.args.a.now c.args.b.now ∙ sym c.requires

pub returns-clause-row : goal.returns-clause-row
returns-clause-row c = ap leaves (c.with_tree.ensures ∙ c.extended_tree-tree.ensures) ∙ leaves_of_two c.args.operation c.args.a.now c.args.b.now ∙ sym c.requires
