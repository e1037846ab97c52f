use Rattle.std.proofs.Common.{◌≡◌, ◌∙◌, ◌<◌, ap, length, not, sym, arith}
use Rattle.spv_stops.specs.Stops.{number_of}
use Rattle.spv_hits.specs.Watches.{same_bits, watched}
use Rattle.spv_hits.proofs.NumberLemmas.{picked_no, picked_yes, placed}
use Rattle.spv_hits.proofs.watches.changed.Goals.{then-branch+in_ok-push, else-branch}
use Rattle.spv_hits.proofs.watches.changed.Goals as goal

pub loop-n-preserved : goal.loop-n-preserved
loop-n-preserved c = λ g was.
    let t = c.args.tables.now in
    let here = c.args.group.now.group in
    let n = c.loop-n.n in
    let watches = c.args.watches.now in
    let x = c.index-watches-n.result in
    let y = c.index-kept-n.result in
    let within : n < length watches = omega arith in
    let before : y ≡ watched t x.1 g = placed (λ w. watched t w.1 g) n c.args.kept.now watches y x was within c.index-kept-n.is c.index-watches-n.is in
    let differ : c.in_ok-differ.field-0 ≡ not (same_bits (watched t x.1 g) (watched t x.1 here)) = c.in_ok-differ.ensures ∙ ap (λ b. not (same_bits b (watched t x.1 here))) before in
    elim c.if-branch.branch [
      | then-branch+in_ok-push w ↦ picked_yes number_of (λ w. not (same_bits (watched t w.1 g) (watched t w.1 here))) n watches x c.loop-n.numbers c.if-branch.numbers within c.index-watches-n.is
          (sym differ ∙ w.if-branch.true) (c.loop-n.invariant g was) (w.numbers-is ∙ w.in_ok-push.ensures.ok)
      | else-branch w ↦ w.numbers-is ∙ picked_no number_of (λ w. not (same_bits (watched t w.1 g) (watched t w.1 here))) n watches x c.loop-n.numbers within c.index-watches-n.is
          (sym differ ∙ w.if-branch.false) (c.loop-n.invariant g was)
    ]
