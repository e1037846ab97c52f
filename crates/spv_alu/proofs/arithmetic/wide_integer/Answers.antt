use Rattle.std.proofs.Common.{◌≡◌, ◌%◌, ◌^◌, bit_and, ap, ◌∙◌, of_z}
use Rattle.std.specs.Int.{w128}
use Rattle.std.proofs.Math.Nat.{mod-mod}
use Rattle.std.proofs.lemmas.Int.{to_z-of_z}
use Rattle.std.proofs.lemmas.Nat.{and_mask}
use Rattle.spv_base.specs.Cell.{defined_cell}
use Rattle.spv_alu.proofs.Widths.{low_bits_of_wide}
use Rattle.spv_alu.proofs.arithmetic.wide_integer.Goals as goal

pub returns : goal.returns
returns c =
    let whole = 2 ^ c.args.width in
    let bits : c.cast_unsigned.result ≡ of_z w128 c.args.value =
    c.cast_unsigned.ensures ∙ ap (of_z w128) (to_z-of_z w128 c.args.value c.ranges.value) in
    let cut : bit_and c.cast_unsigned.result c.greatest.result ≡ c.cast_unsigned.result % whole =
    ap (bit_and c.cast_unsigned.result) c.greatest.ensures ∙ and_mask c.cast_unsigned.result c.args.width in
    c.integer.ensures
    ∙ ap (λ n. defined_cell c.args.width n) (
    ap (λ n. n % whole) cut
    ∙ (mod-mod c.cast_unsigned.result whole
    ∙ (ap (λ n. n % whole) bits ∙ low_bits_of_wide c.args.width c.args.value c.requires.1 c.ranges.value))
    )
