use Rattle.std.proofs.Common.{◌+◌, ◌∙◌, ap, refl, sym, take}
use Rattle.std.specs.List.{sum}
use Rattle.std.proofs.lemmas.List.Sums.{fold_more}
use Rattle.spv_app.proofs.Makings.{sum_more}
use Rattle.spv_app.proofs.making.sum_of.Goals as goal

pub loop-byte-preserved : goal.loop-byte-preserved
loop-byte-preserved c =
    sum_more c.loop-byte.total c.from-total.result _ (sum (take c.loop-byte.byte-index c.args.bytes.now)) _ c.loop-byte.invariant refl
    (fold_more (λ a x. a + x) 0 c.args.bytes.now c.loop-byte.byte-index 0 c.loop-byte-test.true
    ∙ ap (λ b. sum (take c.loop-byte.byte-index c.args.bytes.now) + b) (sym c.from-total.ensures))
