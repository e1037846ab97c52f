use Rattle.std.proofs.Common.{◌≡◌, ◌-◌, ◌<◌, pos, ◌-ℤ◌, ap, ◌∙◌, sym, arith, to_z, of_z, w64}
use Rattle.std.specs.Int.Count.{count_leading_zeros}
use Rattle.std.proofs.lemmas.Nat.{leading_top}
use Rattle.std.proofs.lemmas.Int.{ints}
use Rattle.spv_alu.proofs.Places.{highest_same}
use Rattle.spv_alu.proofs.Widths.{if_not_zero}
use Rattle.spv_alu.proofs.glsl_op.highest_one.Goals as goal

pub returns-else-x-eq0 : goal.returns-else-x-eq0
returns-else-x-eq0 c =
    let x = c.args.x in
    let positive : 0 < x = omega arith in
    let below = c.ranges.x.fits in
    let top = leading_top 64 x positive below in
    let counts = top.1 in
    let whole : to_z w64 (of_z w64 (pos 63 -ℤ to_z w64 (count_leading_zeros 64 x))) ≡ pos (63 - count_leading_zeros 64 x) = omega (arith, ints) in
    whole ∙ (ap pos (highest_same 64 c.args.width x positive below c.requires.x) ∙ sym (if_not_zero x _ _ c.if-x-eq0.false))
