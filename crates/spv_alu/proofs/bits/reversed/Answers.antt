use Rattle.std.proofs.Common.{pos, ap, ◌∙◌}
use Rattle.spv_alu.specs.Results.{integer}
use Rattle.spv_alu.proofs.BitNumbers.{reversed_shifted}
use Rattle.spv_alu.proofs.bits.reversed.Goals as goal

pub returns : goal.returns
returns c =
    c.integer.ensures
    ∙ ap (λ n. integer c.args.width (pos n)) (reversed_shifted c.args.width c.args.x c.reverse_bits.result c.requires.1 c.reverse_bits.type_inv c.reverse_bits.ensures)
