use Rattle.std.proofs.Common.{◌∙◌, ap, arith, inl, inr, rules, sym}
use Rattle.std.specs.Option.{option_map}
use Rattle.spv_types.specs.Cells.{cells_of}
use Rattle.spv_types.specs.Places.{place_among}
use Rattle.spv_base.specs.Saturation.{saturated}
use Rattle.spv_types.proofs.CountedLemmas.{found_at}
use Rattle.spv_types.proofs.PlaceLemmas.{elements_at, in_empty, in_member, in_no_member, none_through, plus_saturated}
use Rattle.spv_types.proofs.places.+place.Goals as goal
use Rattle.spv_types.proofs.places.+place.Goals.{member_place-in_default-via-in-Some+else-cells-left, member_place-in_default-via-in_default}

pub element_place-returns-in_err-within : goal.element_place-returns-in_err-within
element_place-returns-in_err-within t c =
    let at = elements_at c.args.types.now (place_among c.args.types.now c.args.limit) c.args.element c.args.count c.args.stride c.args.leaf c.in_ok-number.number c.in_ok-cells.cells c.requires c.in_ok-cells.ensures c.in_ok-number.ensures in
    rw (c.from_residual-in_err-within.ensures, at) (none_through _ _ c.in_err-within.ensures)

pub element_place-returns : goal.element_place-returns
element_place-returns t c =
    let at = elements_at c.args.types.now (place_among c.args.types.now c.args.limit) c.args.element c.args.count c.args.stride c.args.leaf c.in_ok-number.number c.in_ok-cells.cells c.requires c.in_ok-cells.ensures c.in_ok-number.ensures in
    rw (c.saturating_add.ensures, c.from.ensures, at) (plus_saturated _ _ _ c.in_ok-within.ensures)

pub place_among-form_place-requires : goal.place_among-form_place-requires
place_among-form_place-requires t c =
    let at = found_at c.args.types.now c.args.limit c.args.ty c.in_ok-n.n c.in_ok-n.form.now (sym c.in_ok-n.ensures) in
    (search rules, (c.requires, sym at.form))

pub member_place-returns-then-is_empty : goal.member_place-returns-then-is_empty
member_place-returns-then-is_empty t c = in_empty (cells_of c.args.types.now) (place_among c.args.types.now c.args.number) c.args.members.now c.args.leaf (let e = c.if-is_empty.ensures in grind arith)

pub member_place-returns-in-Some : goal.member_place-returns-in-Some
member_place-returns-in-Some t c =
    let none = in_no_member (cells_of c.args.types.now) (place_among c.args.types.now c.args.number) c.args.members.now c.member_with-i.result c.in_ok-left.field-0 c.args.leaf c.in-Some.cells _ c.requires.near c.member_with-i.ensures.inside c.member_with-i.ensures.begins c.in_ok-left.ensures (sym c.cells.ensures ∙ c.in-Some.is) c.if-cells-left.true c.member_with-i.ensures.last in
    sym (ap (option_map saturated) none)

pub member_place-returns-in_default : goal.member_place-returns-in_default
member_place-returns-in_default t c =
    in_member (cells_of c.args.types.now) (place_among c.args.types.now c.args.number) c.args.members.now c.member_with-i.result c.in_ok-left.field-0 c.args.leaf _ c.leaf_place.result c.requires.near c.member_with-i.ensures.inside c.member_with-i.ensures.begins c.in_ok-left.ensures c.leaf_place.ensures
    (elim c.in_default.branch [
      | member_place-in_default-via-in-Some+else-cells-left w ↦ inr (w.in-Some.cells, sym c.cells.ensures ∙ w.in-Some.is, w.if-cells-left.false)
      | member_place-in_default-via-in_default w ↦ inl (sym c.cells.ensures ∙ w.in_default.is)
    ])
