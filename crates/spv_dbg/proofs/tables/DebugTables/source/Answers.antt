use Rattle.std.proofs.Common.{◌∙◌, ap}
use Rattle.spv_dbg.specs.Tables.{Tables, text_of_file}
use Rattle.spv_dbg.proofs.SourceLemmas.{text_found}
use Rattle.spv_dbg.proofs.tables.DebugTables.source.Goals as goal

pub returns : goal.returns
returns c =
    c.text_with.ensures
    ∙ text_found c.self.inside.strings c.args.file.now _ c.self.inside.sources.items _ c.as_slice.ensures.value (c.copied-number.ensures ∙ c.get.ensures.value ∙ c.self.invariant.names_are c.args.file.now)
    ∙ ap (λ (t : Tables). text_of_file t c.args.file.now) c.self.view_is
