use Rattle.std.proofs.Common.{◌∙◌, ap, sym, subst}
use Rattle.spv_frame.specs.Plans.{AreApart, rooms}
use Rattle.spv_frame.proofs.PlanLemmas.{keeps, planned_is, rooms_are}
use Rattle.spv_frame.proofs.plans.Plan.new.Goals as goal

pub invariant_of-result : goal.invariant_of-result
invariant_of-result c =
    keeps c.args.values.now c.in_ok-slots_of.field-0.items c.in_ok-blank_of.field-0 c.in_ok-from_slice-2.field-0.items c.in_ok-slots_of.ensures c.in_ok-blank_of.ensures c.requires.values
    (subst AreApart (sym c.in_ok-from_slice-2.ensures.items) c.requires.pointers)

pub returns : goal.returns
returns c =
    planned_is c.args.function c.args.first _ _ _ _ _ _ _ _ c.in_ok-from_slice.ensures.items (ap rooms c.in_ok-slots_of.ensures ∙ rooms_are c.args.values.now) c.in_ok-from_slice-2.ensures.items c.in_ok-from_slice-3.ensures.items
