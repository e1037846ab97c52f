use Rattle.std.proofs.Common.{sym, arith}
use Rattle.spv_expr.specs.Bits.{entry_cells}
use Rattle.spv_expr.specs.Kept.{kept_entry}
use Rattle.spv_expr.proofs.RangeLemmas.{meet, put_there}
use Rattle.spv_expr.proofs.locals.put_common.Goals as goal

pub overflow_sub-end : goal.overflow_sub-end
overflow_sub-end c =
    let m = meet c.args.first c.args.bits.now c.args.span c.args.range c.common-both.result c.requires c.common-both.ensures (sym c.if-is_empty.ensures) in
    omega (arith, m.above, m.some)

pub overflow_sub-both : goal.overflow_sub-both
overflow_sub-both c =
    let m = meet c.args.first c.args.bits.now c.args.span c.args.range c.common-both.result c.requires c.common-both.ensures (sym c.if-is_empty.ensures) in
    m.begun

pub put_entry-requires-clause-within : goal.put_entry-requires-clause-within
put_entry-requires-clause-within c =
    let m = meet c.args.first c.args.bits.now c.args.span c.args.range c.common-both.result c.requires c.common-both.ensures (sym c.if-is_empty.ensures) in
    omega (arith, m.above, m.below, m.some)

pub returns : goal.returns
returns c =
    let m = meet c.args.first c.args.bits.now c.args.span c.args.range c.common-both.result c.requires c.common-both.ensures (sym c.if-is_empty.ensures) in
    put_there (entry_cells (kept_entry c.args.entry.now)) c.args.first c.args.bits.now c.put_entry.new.bits c.args.span c.args.range c.common-both.result c.common-both.ensures m c.put_entry.ensures
