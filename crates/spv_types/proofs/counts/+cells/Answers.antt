use Rattle.std.proofs.Common.{ap, sym, ◌∙◌, Some}
use Rattle.std.specs.Option.{option_map}
use Rattle.spv_base.specs.Saturation.{saturated}
use Rattle.spv_types.specs.Cells.{cells_among}
use Rattle.spv_types.proofs.CellLemmas.{members_cells_nil, members_cells_next, repeated_saturated}
use Rattle.spv_types.proofs.CountedLemmas.{counted_cells}
use Rattle.spv_types.proofs.counts.+cells.Goals as goal

pub members_cells-loop-member-init : goal.members_cells-loop-member-init
members_cells-loop-member-init t c = ap (option_map saturated) (members_cells_nil (cells_among c.args.types.now c.args.limit))

pub members_cells-loop-member-preserved : goal.members_cells-loop-member-preserved
members_cells-loop-member-preserved t c =
    members_cells_next (cells_among c.args.types.now c.args.limit) c.args.members.now c.loop-member.member-index _ _ _ c.loop-member-test.true c.loop-member.invariant (sym c.in_ok-cells.ensures) ∙ ap Some (sym c.saturating_add-total.ensures)

pub repeated_cells-returns : goal.repeated_cells-returns
repeated_cells-returns t c = let e = repeated_saturated (cells_among c.args.types.now c.args.limit c.args.ty) c.in_ok-cells.cells c.args.count (sym c.in_ok-cells.ensures) in rw (c.saturating_mul.ensures, c.from.ensures) (sym e)

pub cells_among-returns-in-Some : goal.cells_among-returns-in-Some
cells_among-returns-in-Some t c = counted_cells c.args.types.now c.args.limit c.args.ty c.in_ok-n.n c.in_ok-n.form.now c.in-Some.count.now (sym c.in_ok-n.ensures) c.in-Some.ensures
