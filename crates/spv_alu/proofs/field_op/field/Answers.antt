use Rattle.std.proofs.Common.{◌/◌, ◌^◌, bit_and, ap, ◌∙◌}
use Rattle.std.proofs.lemmas.Nat.{and_mask}
use Rattle.spv_alu.proofs.field_op.field.Goals as goal

pub returns-else-count-eq0 : goal.returns-else-count-eq0
returns-else-count-eq0 c =
    ap (bit_and (c.args.base / 2 ^ c.args.offset)) c.greatest.ensures ∙ and_mask (c.args.base / 2 ^ c.args.offset) c.args.count
