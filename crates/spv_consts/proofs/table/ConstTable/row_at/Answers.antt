use Rattle.std.proofs.Common.{◌≡◌, ◌∙◌, ap, sym, refl}
use Rattle.spv_consts.specs.Table.{all_cells}
use Rattle.spv_consts.proofs.TableLemmas.{all_taken}
use Rattle.spv_consts.proofs.table.ConstTable.row_at.Goals as goal

pub returns : goal.returns
returns c =
    let all : all_cells c.args.self.now ≡ c.self.inside.cells.items =
    sym (ap all_cells c.self.view_is) ∙ all_taken c.self.inside.cells.items c.self.inside.entries.items c.self.inside.places c.self.invariant in
    rw (c.part.ensures, c.as_slice.ensures.value, all) refl
