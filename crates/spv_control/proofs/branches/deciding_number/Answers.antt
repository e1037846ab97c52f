use Rattle.std.proofs.Common.{◌∙◌, ap, sym}
use Rattle.spv_base.specs.Cell.{Cell}
use Rattle.spv_base.specs.declared.values.Value.{Scalar}
use Rattle.spv_control.proofs.BranchLemmas.{number_defined, number_undefined}
use Rattle.spv_control.proofs.branches.deciding_number.Goals as goal

pub returns-then-cell : goal.returns-then-cell
returns-then-cell c =
    number_defined c.args.part.now (record { bits = c.cell.inside.bits; width = c.cell.inside.width; defined = c.cell.inside.defined }) (c.cell_of-cell.ensures ∙ ap (λ (l : Cell). Scalar l) (sym c.cell.view_is)) c.if-cell.true

pub returns-else-cell : goal.returns-else-cell
returns-else-cell c =
    number_undefined c.args.part.now (record { bits = c.cell.inside.bits; width = c.cell.inside.width; defined = c.cell.inside.defined }) (c.cell_of-cell.ensures ∙ ap (λ (l : Cell). Scalar l) (sym c.cell.view_is)) c.if-cell.false
