use Rattle.spv_fit.proofs.CellLemmas.{saturated_all}
use Rattle.spv_fit.proofs.cells.cells_in.Goals as goal

pub returns : goal.returns
returns c =
    let shared = rw c.insts-2.ensures.insts at c.all_shared-shared.ensures in
    let own = rw c.insts.ensures.insts at c.all_own.ensures in
    saturated_all _ _ c.args.frames c.args.invocations c.from.result c.all_shared-shared.result c.all_own.result c.saturating_add-each.result c.saturating_mul.result c.saturating_add.result c.from.ensures shared own c.saturating_add-each.ensures c.saturating_mul.ensures c.saturating_add.ensures
