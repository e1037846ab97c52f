use Rattle.std.proofs.Common.{ap, ◌∙◌, bit_and}
use Rattle.std.proofs.lemmas.Nat.{and_mask}
use Rattle.spv_base.specs.Cell.{defined_cell}
use Rattle.spv_alu.proofs.results.integer.Goals as goal

pub returns : goal.returns
returns c =
    ap (λ n. defined_cell c.args.width n) (ap (bit_and c.args.bits) c.greatest.ensures ∙ and_mask c.args.bits c.args.width)
