use Rattle.std.proofs.Common.{arith, ap, ◌∙◌}
use Rattle.spv_base.specs.Cell.{defined_cell}
use Rattle.spv_alu.proofs.Widths.{low_bits_of_difference}
use Rattle.spv_alu.proofs.arithmetic.difference.Goals as goal

pub returns : goal.returns
returns c =
    c.integer.ensures
    ∙ ap (λ n. defined_cell c.args.width n) (low_bits_of_difference c.args.width c.args.x c.args.y c.requires.1 (omega arith))
