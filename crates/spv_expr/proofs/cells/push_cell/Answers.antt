use Rattle.std.proofs.Common.{◌<◌, ◌∙◌, ◌++◌, ◌∷◌, [], List, length, map, take, append_assoc, ap, sym}
use Rattle.spv_base.specs.Bits.{cell_bits}
use Rattle.spv_dbg.specs.declared.frames.Bit.{Bit}
use Rattle.spv_expr.specs.Bits.{bound}
use Rattle.spv_expr.proofs.CellLemmas.{one_more}
use Rattle.spv_expr.proofs.cells.push_cell.Goals as goal

pub loop-k-preserved : goal.loop-k-preserved
loop-k-preserved c =
    let bs = cell_bits c.args.cell in
    let below : c.loop-k.k < length bs = rw c.bit_count-k-end.ensures at c.loop-k-test.true in
    let begun = map bound (take c.loop-k.k bs) in
    c.in_ok-push.ensures.items
    ∙ ap (λ (xs : List Bit). xs ++ c.cell_bit.result ∷ []) c.loop-k.invariant
    ∙ append_assoc c.args.bits.now.items begun (c.cell_bit.result ∷ [])
    ∙ ap (λ (b : Bit). c.args.bits.now.items ++ (begun ++ b ∷ [])) c.cell_bit.ensures
    ∙ ap (λ (xs : List Bit). c.args.bits.now.items ++ xs) (sym (one_more bs c.loop-k.k below))
