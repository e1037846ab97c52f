use Rattle.spv_alu.proofs.Widths.{greatest_shifted}
use Rattle.spv_alu.proofs.integers.greatest.Goals as goal

pub returns : goal.returns
returns c = greatest_shifted c.args.width c.requires.1
