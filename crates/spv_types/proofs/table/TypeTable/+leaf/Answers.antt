use Rattle.std.proofs.Common.{refl, sym}
use Rattle.spv_types.specs.Types.{form_at}
use Rattle.spv_types.proofs.CountedLemmas.{form_found}
use Rattle.spv_types.proofs.LeafLemmas.{leaf_saturated, leaf_no_part, leaf_not_within, leaf_unknown}
use Rattle.spv_types.proofs.TypeLemmas.{number_lt, number_none}
use Rattle.spv_types.proofs.table.TypeTable.+leaf.Goals as goal

pub part_at-requires : goal.part_at-requires
part_at-requires t c = number_lt c.args.self.now c.args.ty c.in_ok-number.field-0 (sym c.in_ok-number.ensures)

pub returns-in_err-number : goal.returns-in_err-number
returns-in_err-number t c =
    let none = leaf_unknown c.args.self.now c.args.ty c.in-Some.first.now c.in-Some.rest.now (number_none c.args.self.now c.args.ty (sym c.in_err-number.ensures)) in
    rw (c.from_residual.ensures, c.in-Some.ensures.cases.0, none) refl

pub returns-in_err-before : goal.returns-in_err-before
returns-in_err-before t c =
    let found = form_found c.args.self.now c.args.ty c.in_ok-number.field-0 (sym c.in_ok-number.ensures) in
    let none = leaf_no_part c.args.self.now c.args.ty c.in-Some.first.now c.in-Some.rest.now (form_at c.args.self.now c.in_ok-number.field-0) found c.in_err-before.ensures in
    rw (c.from_residual-in_err-before.ensures, c.in-Some.ensures.cases.0, none) refl

pub returns-in_err-within : goal.returns-in_err-within
returns-in_err-within t c =
    let found = form_found c.args.self.now c.args.ty c.in_ok-number.field-0 (sym c.in_ok-number.ensures) in
    let none = leaf_not_within c.args.self.now c.args.ty c.in-Some.first.now c.in_ok-before.before c.in_ok-before.part c.in-Some.rest.now (form_at c.args.self.now c.in_ok-number.field-0) found c.in_ok-before.ensures c.in_err-within.ensures in
    rw (c.from_residual-in_err-within.ensures, c.in-Some.ensures.cases.0, none) refl

pub returns : goal.returns
returns t c =
    let found = form_found c.args.self.now c.args.ty c.in_ok-number.field-0 (sym c.in_ok-number.ensures) in
    let e = leaf_saturated c.args.self.now c.args.ty c.in-Some.first.now c.in_ok-before.before c.in_ok-before.part c.in_ok-within.within c.in-Some.rest.now (form_at c.args.self.now c.in_ok-number.field-0) found c.in_ok-before.ensures c.in_ok-within.ensures in
    rw (c.saturating_add.ensures, c.in-Some.ensures.cases.0) e
