use Rattle.std.proofs.Common.{◌/◌, ◌^◌, sym}
use Rattle.spv_alu.proofs.Widths.{signed_of_none}
use Rattle.spv_alu.proofs.field_op.signed_field.Goals as goal

pub returns-then-count-eq0 : goal.returns-then-count-eq0
returns-then-count-eq0 c = sym (signed_of_none c.args.count (c.args.base / 2 ^ c.args.offset) c.if-count-eq0.true)
