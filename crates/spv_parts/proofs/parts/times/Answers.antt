use Rattle.spv_parts.proofs.SaturationLemmas.{times_all, times_more}
use Rattle.spv_parts.proofs.parts.times.Goals as goal

pub loop-id-preserved : goal.loop-id-preserved
loop-id-preserved c = record {
  fits = c.saturating_mul-bits.type_inv;
  same = rw (c.saturating_mul-bits.ensures, c.count.ensures)
      (times_more c.args.tables.now c.loop-id.bits c.loop-id.id-index c.args.counts.now _ c.loop-id-test.true c.loop-id.invariant.same);
}

pub returns : goal.returns
returns c = times_all c.args.tables.now c.loop-id.bits c.loop-id.id-index c.args.counts.now _ c.loop-id-test.false c.loop-id.invariant.fits c.loop-id.invariant.same
