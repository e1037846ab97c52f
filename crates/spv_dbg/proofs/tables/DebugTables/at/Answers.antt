use Rattle.std.proofs.Common.{◌∙◌, ap}
use Rattle.spv_dbg.specs.declared.insts.DebugInst.{DebugInst}
use Rattle.spv_dbg.specs.Tables.{Tables}
use Rattle.spv_index.proofs.Exports.{item_led}
use Rattle.spv_dbg.proofs.tables.DebugTables.at.Goals as goal

pub returns : goal.returns
returns c =
    c.inst_with.ensures
    ∙ item_led (λ (d : DebugInst). d.word) _ _ _ _ _ _ c.as_slice.ensures.value (ap (λ (t : Tables). t.insts) c.self.view_is) c.self.invariant.words_are c.get.ensures
