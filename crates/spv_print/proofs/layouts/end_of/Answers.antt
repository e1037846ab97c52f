use Rattle.std.proofs.Common.{◌∙◌, ap, refl, max, get_or, arith}
use Rattle.spv_print.specs.declared.pieces.Piece.TheVariants.{OpenList}
use Rattle.spv_print.proofs.PieceLemmas.{end_within, next_end}
use Rattle.spv_print.proofs.layouts.end_of.Goals as goal

pub end-requires : goal.end-requires
end-requires c =
    let ps = c.args.pieces.now in
    omega (arith, c.requires, end_within ps c.loop-piece.piece-index (get_or ps c.loop-piece.piece-index OpenList) OpenList c.loop-piece-test.true refl)

pub loop-piece-preserved : goal.loop-piece-preserved
loop-piece-preserved c =
    let next = next_end c.args.pieces.now c.loop-piece.piece-index c.loop-piece.end OpenList c.loop-piece-test.true c.loop-piece.invariant in
    c.larger-end.ensures ∙ ap (λ k. max c.loop-piece.end k) c.end.ensures ∙ next
