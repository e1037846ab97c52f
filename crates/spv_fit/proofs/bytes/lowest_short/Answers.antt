use Rattle.std.proofs.Common.{sym, arith}
use Rattle.spv_fit.proofs.GivenLemmas.{short_more, short_none}
use Rattle.spv_fit.proofs.bytes.lowest_short.Goals as goal

pub back-init : goal.back-init
back-init c = record {
  within = omega arith;
  lowest = sym (short_none c.args.index.now.insts c.args.types.now c.args.setup.now c.args.insts.now);
}

pub back-preserved : goal.back-preserved
back-preserved c = record {
  within = omega (arith, c.back.invariant.within);
  lowest = short_more c.args.index.now.insts c.args.types.now c.args.setup.now c.args.insts.now c.back.n c.index-insts-n.result c.lower-lowest.result c.short_for.result c.back.lowest (omega (arith, c.back-test.true)) c.back.invariant.within c.index-insts-n.is
      c.lower-lowest.ensures c.short_for.ensures c.back.invariant.lowest;
}
