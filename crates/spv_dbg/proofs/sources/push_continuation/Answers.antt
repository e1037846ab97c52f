use Rattle.std.proofs.Common.{◌∙◌, ◌++◌, ◌∷◌, [], slice_index, ap, arith}
use Rattle.std.proofs.lemmas.Grind.{common_steps}
use Rattle.spv_dbg.specs.declared.pieces.Piece.TheVariants.{Named}
use Rattle.spv_dbg.proofs.SourceLemmas.{continued_more}
use Rattle.spv_dbg.proofs.sources.push_continuation.Goals as goal
use Rattle.spv_dbg.proofs.sources.push_continuation.Goals.{then-debug-eq-SOURCE_CONTINUED+in_ok-push, else-debug-eq-SOURCE_CONTINUED}

pub loop-debug-preserved : goal.loop-debug-preserved
loop-debug-preserved c = λ strings.
    elim c.if-debug-eq-SOURCE_CONTINUED.branch [
      | then-debug-eq-SOURCE_CONTINUED+in_ok-push w ↦
          let d = c.debug-item.result in
          let old = c.loop-debug.pieces in
          let new = w.pieces-is ∙ w.in_ok-push.ensures.ok ∙ ap (λ id. old ++ Named id ∷ []) (w.operand.ensures ∙ ap (λ ids. slice_index ids 0) w.as_slice.ensures) in
          continued_more strings old c.if-debug-eq-SOURCE_CONTINUED.pieces d c.args.insts.now c.loop-debug.debug-index _
          c.loop-debug-test.true c.debug-item.is w.if-debug-eq-SOURCE_CONTINUED.true new (c.loop-debug.invariant strings)
      | else-debug-eq-SOURCE_CONTINUED w ↦ grind (arith, common_steps)
    ]
