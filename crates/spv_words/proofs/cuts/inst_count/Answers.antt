use Rattle.std.proofs.Common.{arith, refl}
use Rattle.spv_words.proofs.CutLemmas.{cut-step}
use Rattle.spv_words.specs.Cuts.{raw_of}
use Rattle.spv_words.proofs.cuts.inst_count.Goals as goal

pub cuts-init : goal.cuts-init
unfolding raw_of
cuts-init c = ((λ refusal e. e), omega arith, omega (arith, c.requires))

pub cuts-preserved : goal.cuts-preserved
cuts-preserved c =
    let count = c.in_ok-place.ensures.count in
    let step = cut-step c.args.words.now c.cuts.place c.in_ok-place.field-0 c.cuts-test.true count.0 count.1 count.2 in
    ((λ refusal e. c.cuts.invariant.0 refusal (rw (step, e) refl)), omega (arith, count.1, c.cuts.invariant.1), count.2)
