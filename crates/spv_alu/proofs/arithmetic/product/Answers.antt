use Rattle.std.proofs.Common.{◌*◌, ap, ◌∙◌}
use Rattle.spv_base.specs.Cell.{defined_cell}
use Rattle.spv_alu.proofs.Widths.{low_of_64}
use Rattle.spv_alu.proofs.arithmetic.product.Goals as goal

pub returns : goal.returns
returns c =
    c.integer.ensures ∙ ap (λ n. defined_cell c.args.width n) (low_of_64 (c.args.x * c.args.y) c.args.width c.requires.1)
