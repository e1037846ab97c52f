use Rattle.std.proofs.Common.{◌≤◌, pos, ap, ◌∙◌, sym, arith, w64}
use Rattle.std.specs.Int.Count.{count_trailing_zeros}
use Rattle.std.proofs.lemmas.Nat.{trailing_le}
use Rattle.std.proofs.lemmas.Int.{to_z_pos}
use Rattle.spv_alu.proofs.Places.{lowest_same}
use Rattle.spv_alu.proofs.Widths.{if_not_zero}
use Rattle.spv_alu.proofs.glsl_op.lowest_one.Goals as goal

pub returns-else-x-eq0 : goal.returns-else-x-eq0
returns-else-x-eq0 c =
    let bound : count_trailing_zeros 64 c.args.x ≤ 64 = trailing_le 64 c.args.x in
    to_z_pos w64 (count_trailing_zeros 64 c.args.x) (omega arith)
    ∙ (ap pos (lowest_same c.args.width 64 c.args.x (omega arith) c.requires.x c.requires.width.1) ∙ sym (if_not_zero c.args.x _ _ c.if-x-eq0.false))
