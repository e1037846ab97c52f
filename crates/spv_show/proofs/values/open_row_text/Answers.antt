use Rattle.spv_show.proofs.TextLemmas.{row_written}
use Rattle.spv_show.proofs.values.open_row_text.Goals as goal

pub returns-clause-ok : goal.returns-clause-ok
returns-clause-ok c = λ v shape row.
    row_written c.args.elements c.args.types.now c.args.ty c.len.result c.args.cells.now v c.args.out.now.items c.extend_from_slice.new.self.items c.text.result.now _ c.among.new.sheet shape row c.len.ensures c.new-sheet.ensures c.in_ok-among.ensures c.text.ensures c.in_ok-extend_from_slice.ensures.items
