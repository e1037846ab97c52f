use Rattle.spv_dbg.specs.Literals.{literal_of}
use Rattle.spv_dbg.proofs.MeasureLemmas.{times_all, times_more}
use Rattle.spv_dbg.proofs.measures.times.Goals as goal

pub loop-id-preserved : goal.loop-id-preserved
loop-id-preserved c = record {
  fits = c.saturating_mul-bits.type_inv;
  same = rw (c.saturating_mul-bits.ensures, c.count_of.ensures)
      (times_more (literal_of c.args.module.now) c.loop-id.bits c.loop-id.id-index c.args.counts.now _ c.loop-id-test.true c.loop-id.invariant.same);
}

pub returns : goal.returns
returns c = times_all (literal_of c.args.module.now) c.loop-id.bits c.loop-id.id-index c.args.counts.now _ c.loop-id-test.false c.loop-id.invariant.fits c.loop-id.invariant.same
