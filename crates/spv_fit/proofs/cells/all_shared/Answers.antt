use Rattle.std.proofs.Common.{arith}
use Rattle.spv_fit.proofs.CellLemmas.{shared_at, shared_none, sum_end, sum_more}
use Rattle.spv_fit.proofs.cells.all_shared.Goals as goal

pub loop-inst-preserved : goal.loop-inst-preserved
loop-inst-preserved c = record {
  fits = omega arith;
  sum = sum_more c.saturating_add-cells.result c.loop-inst.cells c.shared_cells.result _ _ _ _ c.saturating_add-cells.ensures c.shared_cells.ensures
      (shared_at c.args.index.now.insts c.args.types.now c.args.setup.now c.args.insts.now c.loop-inst.inst-index c.inst-item.result c.loop-inst-test.true c.inst-item.is) c.loop-inst.invariant.sum;
}

pub returns : goal.returns
returns c = sum_end c.loop-inst.cells _ _ (c.loop-inst.invariant.fits) (shared_none c.args.index.now.insts c.args.types.now c.args.setup.now c.args.insts.now c.loop-inst.inst-index c.loop-inst-test.false) c.loop-inst.invariant.sum
