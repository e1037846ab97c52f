use Rattle.std.proofs.Common.{◌≡◌, length, sym, arith}
use Rattle.spv_types.specs.declared.forms.Member.{Member}
use Rattle.spv_consts.specs.Values.{blank_cell, widths_among}
use Rattle.spv_consts.proofs.ValueLemmas.{map_members, map_repeated, no_copies, none_added, repeated_is, widths_none}
use Rattle.spv_consts.proofs.values.Blanks.+blanks.Goals as goal

pub among-returns-in-None : goal.among-returns-in-None
among-returns-in-None t c =
    none_added (blank_cell c.args.self.now.defined) c.args.cells.now.items (widths_among c.args.self.now.types.now c.args.limit c.args.ty)
    (widths_none c.args.self.now.types.now c.args.limit c.args.ty (sym c.in-None.ensures))

pub of_form-returns-in-Vector : goal.of_form-returns-in-Vector
of_form-returns-in-Vector t c =
    rw (c.in-Vector.is, map_repeated (blank_cell c.args.self.now.defined) (widths_among c.args.self.now.types.now c.args.limit) c.in-Vector.count c.in-Vector.component) c.repeated_cells.ensures

pub of_form-returns-in-Array : goal.of_form-returns-in-Array
of_form-returns-in-Array t c =
    rw (c.in-Array.is, ← c.unwrap_or.ensures, map_repeated (blank_cell c.args.self.now.defined) (widths_among c.args.self.now.types.now c.args.limit) c.unwrap_or.result c.in-Array.element) c.repeated_cells-in-Array.ensures

pub of_form-returns-in-Struct : goal.of_form-returns-in-Struct
of_form-returns-in-Struct t c =
    rw (c.in-Struct.is, map_members (blank_cell c.args.self.now.defined) (widths_among c.args.self.now.types.now c.args.limit) (λ (m : Member). m.ty) c.in-Struct.members, ← c.as_slice.ensures) c.of_members.ensures

pub repeated_cells-returns-then-count-eq0 : goal.repeated_cells-returns-then-count-eq0
repeated_cells-returns-then-count-eq0 t c = no_copies c.args.count c.args.cells.now.items _ c.if-count-eq0.true

pub repeated_cells-returns : goal.repeated_cells-returns
repeated_cells-returns t c =
    let start : c.len-start.result ≡ length c.args.cells.now.items = omega arith in
    repeated_is c.repeat.result c.args.count c.len-start.result c.args.cells.now.items _ c.among.new.cells.items c.repeat.new.cells.items c.if-count-eq0.false start c.in_ok-among.ensures c.repeat.ensures
