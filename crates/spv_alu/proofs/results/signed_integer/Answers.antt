use Rattle.std.proofs.Common.{ap, ◌∙◌, ◌%◌, ◌^◌, w64, of_z}
use Rattle.std.proofs.lemmas.Int.{to_z-of_z}
use Rattle.spv_base.specs.Cell.{defined_cell}
use Rattle.spv_alu.proofs.Widths.{low_bits_of_signed}
use Rattle.spv_alu.proofs.results.signed_integer.Goals as goal

pub returns : goal.returns
returns c =
    c.integer.ensures
    ∙ ap (λ n. defined_cell c.args.width n) (
    ap (λ n. n % 2 ^ c.args.width) (c.cast_unsigned.ensures ∙ ap (of_z w64) (to_z-of_z w64 c.args.value c.ranges.value))
    ∙ low_bits_of_signed c.args.width c.args.value c.requires.1 c.ranges.value
    )
