use Rattle.std.proofs.Common.{◌≡◌, ◌-◌, ◌^◌, ◌<◌, suc, ◌*◌, ◌≤◌, arith, ap, ◌∙◌, sym, w64, pos, negsuc, to_z}
use Rattle.spv_alu.proofs.Widths.{signed_low, signed_high, low_half, high_half, pow_64, to_z_high}
use Rattle.std.proofs.lemmas.Int.{ints}
use Rattle.spv_alu.proofs.integers.signed.Goals as goal

pub returns-then-bits-width-eq0 : goal.returns-then-bits-width-eq0
returns-then-bits-width-eq0 c =
    let low : 2 * c.args.bits < 2 ^ c.args.width = low_half c.args.width c.args.bits c.requires.width.0 c.if-bits-width-eq0.true in
    let bound : 2 ^ c.args.width ≤ 2 ^ 64 = pow_64 c.args.width c.requires.width.1 in
    let small : c.args.bits < 2 ^ 63 = omega arith in
    let reading : to_z w64 c.args.bits ≡ pos c.args.bits = omega (arith, ints) in
    reading ∙ sym (signed_low c.args.width c.args.bits low)

pub returns-else-bits-width-eq0 : goal.returns-else-bits-width-eq0
returns-else-bits-width-eq0 c =
    let high : 2 ^ c.args.width ≤ 2 * c.args.bits = high_half c.args.width c.args.bits c.requires.width.0 c.if-bits-width-eq0.false in
    let bound : 2 ^ c.args.width ≤ 2 ^ 64 = pow_64 c.args.width c.requires.width.1 in
    let complement = 18446744073709551615 - (c.greatest.result - c.args.bits) in
    let above : 2 ^ 63 ≤ complement = omega arith in
    let same : 2 ^ 64 - suc complement ≡ 2 ^ c.args.width - 1 - c.args.bits = omega arith in
    to_z_high complement above ∙ ap negsuc same ∙ sym (signed_high c.args.width c.args.bits high)
