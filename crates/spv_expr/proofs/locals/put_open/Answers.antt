use Rattle.spv_expr.specs.Bits.{entry_cells}
use Rattle.spv_expr.specs.Kept.{kept_entry}
use Rattle.spv_expr.proofs.RangeLemmas.{put_one_more}
use Rattle.spv_expr.proofs.locals.put_open.Goals as goal

pub loop-span-preserved : goal.loop-span-preserved
loop-span-preserved c = put_one_more (entry_cells (kept_entry c.args.entry.now)) c.args.range c.args.gaps.now c.loop-span.span-index (record { start = 0; end = 0 }) c.args.first c.args.bits.now
    c.loop-span.bits c.put_common.new.bits c.loop-span-test.true c.loop-span.auto.bits c.loop-span.invariant c.put_common.ensures
