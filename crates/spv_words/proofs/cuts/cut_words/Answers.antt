use Rattle.std.proofs.Common.{◌≡◌, ◌∙◌, ap, [], drop}
use Rattle.std.proofs.lemmas.List.{drop_all}
use Rattle.spv_words.proofs.CutLemmas.{cut-step, behind, behind-before, behind-nothing, behind-all}
use Rattle.spv_words.proofs.CutLaws.{raw_of-joined}
use Rattle.spv_words.specs.Cuts.{raw_of}
use Rattle.spv_words.proofs.cuts.cut_words.Goals as goal

pub cuts-init : goal.cuts-init
unfolding raw_of
cuts-init c = (rw c.in_ok-insts.ensures.items (behind-nothing _), c.requires.long)

pub cuts-preserved : goal.cuts-preserved
cuts-preserved c =
    let count = c.in_ok-count.ensures.count in
    let words = c.args.words.now in
    let step = cut-step words c.cuts.place c.in_ok-count.count c.cuts-test.true count.0 count.1 count.2 in
    (rw (c.in_ok-push.ensures.items, c.in_ok-inst.ensures) (c.cuts.invariant.0 ∙ ap (behind c.cuts.insts.items) step ∙ behind-before c.cuts.insts.items _ _), count.2)

pub returns-clause-cut : goal.returns-clause-cut
returns-clause-cut c =
    let words = c.args.words.now in
    let past : drop c.cuts.place words ≡ [] = drop_all c.cuts.place words c.cuts-test.false in
    let all = rw past at c.cuts.invariant.0 in
    raw_of-joined words c.cuts.insts.items c.requires.fits (all ∙ behind-all c.cuts.insts.items)
