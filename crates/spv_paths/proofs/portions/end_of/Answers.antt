use Rattle.std.proofs.Common.{◌∙◌}
use Rattle.spv_paths.specs.Kept.{kept_portion}
use Rattle.spv_paths.proofs.PortionLemmas.{end_all, end_empty, end_first, end_inner, end_next}
use Rattle.spv_paths.proofs.portions.end_of.Goals as goal

pub loop-n-init : goal.loop-n-init
loop-n-init c = end_first c.args.tables.now c.args.bits (kept_portion c.args.portion)

pub returns-then-not-at : goal.returns-then-not-at
returns-then-not-at c = c.plain_end.ensures
    ∙ end_inner c.args.tables.now c.args.bits c.ranges.bits.fits c.loop-n.n (kept_portion c.loop-n.at) _ c.loop-n-test.true c.loop-n.invariant c.if-not-at.true

pub returns-in_default : goal.returns-in_default
returns-in_default c = c.plain_end-in_default.ensures
    ∙ end_empty c.args.tables.now c.args.bits c.ranges.bits.fits c.loop-n.n (kept_portion c.loop-n.at) _ c.loop-n-test.true c.loop-n.invariant c.in_default.ensures

pub loop-n-preserved : goal.loop-n-preserved
loop-n-preserved c = end_next c.args.tables.now c.args.bits c.ranges.bits.fits c.loop-n.n (kept_portion c.loop-n.at) _ c.loop-n-test.true c.loop-n.invariant c.if-not-at.false (kept_portion c.in-Some.part) c.in-Some.ensures

pub returns : goal.returns
returns c = c.plain_end-2.ensures ∙ end_all c.args.tables.now c.args.bits c.loop-n.n (kept_portion c.loop-n.at) _ c.loop-n-test.false c.loop-n.invariant
