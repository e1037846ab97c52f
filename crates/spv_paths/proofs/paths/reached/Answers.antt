use Rattle.spv_paths.specs.Kept.{kept_portion}
use Rattle.spv_paths.proofs.PathLemmas.{reached_all, reached_next}
use Rattle.spv_paths.proofs.paths.reached.Goals as goal

pub loop-part-preserved : goal.loop-part-preserved
loop-part-preserved c =
    let q = reached_next c.args.tables.now c.args.bits c.ranges.bits.fits c.args.parts.now c.loop-part.part-index c.part-item.result (kept_portion c.loop-part.portion) (kept_portion c.in_ok-inner.inner) _ c.loop-part-test.true c.part-item.is c.in_ok-inner.ensures
    c.loop-part.invariant.same in
    record { fits = q.0; same = q.1 }

pub returns : goal.returns
returns c = reached_all c.args.tables.now c.args.bits c.args.parts.now c.loop-part.part-index (kept_portion c.loop-part.portion) _ c.loop-part-test.false c.loop-part.invariant.fits c.loop-part.invariant.same
