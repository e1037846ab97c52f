use Rattle.std.proofs.Common.{◌∙◌, ap}
use Rattle.std.specs.Option.{option_map}
use Rattle.spv_dbg.specs.declared.marks.Mark.{Mark}
use Rattle.spv_dbg.specs.Tables.{Tables, bits_in}
use Rattle.spv_dbg.proofs.NumberLemmas.{marks_led}
use Rattle.spv_dbg.proofs.tables.DebugTables.bits.Goals as goal

pub returns : goal.returns
returns c =
    c.bits_in.ensures
    ∙ ap (option_map (λ (k : Mark). k.bits)) (c.mark_with.ensures ∙ marks_led _ _ _ c.args.id _ _ c.as_slice.ensures.value c.self.invariant.ids_are c.get.ensures)
    ∙ ap (λ (t : Tables). bits_in t c.args.id) c.self.view_is
