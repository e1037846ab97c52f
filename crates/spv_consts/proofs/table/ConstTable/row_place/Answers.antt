use Rattle.std.proofs.Common.{◌≡◌, ◌∙◌, Some, length, option_map, arith, ap, sym, refl}
use Rattle.spv_index.specs.Firsts.{place_of}
use Rattle.spv_index.proofs.Exports.{place_lt, place_none}
use Rattle.spv_consts.specs.Table.{Constants, place_from, row_at, rows_of}
use Rattle.spv_consts.proofs.TableLemmas.{entry_place, no_place, row_is, rows_long}
use Rattle.spv_consts.proofs.table.ConstTable.row_place.Goals as goal

pub index-entry-requires : goal.index-entry-requires
index-entry-requires c =
    let e = place_lt c.args.self.now c.args.id c.in_ok-number.number (sym c.in_ok-number.ensures) in
    omega (arith, e, ap length c.self.view_is, rows_long c.self.inside.cells.items c.self.inside.entries.items)

pub returns-in_err-number-clause-place : goal.returns-in_err-number-clause-place
returns-in_err-number-clause-place c = let e = no_place 0 c.args.self.now c.args.id (sym c.in_err-number.ensures) in rw (c.from_residual.ensures, e) refl

pub returns-in_err-number-clause-row : goal.returns-in_err-number-clause-row
returns-in_err-number-clause-row c = let e = place_none c.args.self.now c.args.id (sym c.in_err-number.ensures) in rw (c.from_residual.ensures, e) refl

pub returns-clause-place : goal.returns-clause-place
returns-clause-place c =
    let found : place_of (rows_of c.self.inside.cells.items c.self.inside.entries.items) c.args.id ≡ Some c.in_ok-number.number =
    ap (λ (cs : Constants). place_of cs c.args.id) c.self.view_is ∙ sym c.in_ok-number.ensures in
    sym (entry_place c.self.inside.cells.items c.self.inside.entries.items c.self.inside.places c.args.id c.in_ok-number.number c.index-entry.result.now c.self.invariant found c.index-entry.ensures)
    ∙ ap (λ (cs : Constants). place_from 0 cs c.args.id) c.self.view_is

pub returns-clause-row : goal.returns-clause-row
returns-clause-row c =
    let found : place_of (rows_of c.self.inside.cells.items c.self.inside.entries.items) c.args.id ≡ Some c.in_ok-number.number =
    ap (λ (cs : Constants). place_of cs c.args.id) c.self.view_is ∙ sym c.in_ok-number.ensures in
    ap (option_map (row_at c.args.self.now))
    (sym (entry_place c.self.inside.cells.items c.self.inside.entries.items c.self.inside.places c.args.id c.in_ok-number.number c.index-entry.result.now c.self.invariant found c.index-entry.ensures)
    ∙ ap (λ (cs : Constants). place_from 0 cs c.args.id) c.self.view_is)
    ∙ row_is c.args.self.now c.args.id
