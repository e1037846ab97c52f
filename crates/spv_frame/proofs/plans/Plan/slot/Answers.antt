use Rattle.std.proofs.Common.{◌≡◌, ◌∙◌, ◌<◌, Some, length, ap, sym, subst, arith, slice_get}
use Rattle.std.proofs.lemmas.Option.{slice_get-get_or}
use Rattle.spv_frame.specs.declared.slots.Slot.{Slot}
use Rattle.spv_frame.specs.Registers.{IsSlotOf, Planned, Rooms}
use Rattle.spv_frame.specs.Plans.{rooms}
use Rattle.spv_frame.proofs.FrameLemmas.{rooms_long}
use Rattle.spv_frame.proofs.PlanLemmas.{slot_is}
use Rattle.spv_frame.proofs.plans.Plan.slot.Goals as goal

pub returns : goal.returns
returns c =
    let long = rooms_long c.self.inside.values.items in
    let same : length (rooms c.self.inside.values.items) ≡ length c.args.self.now.values = ap (λ (p : Planned). length p.values) c.self.view_is in
    let bound = c.requires in
    let within : c.args.number < length c.self.inside.values.items = omega arith in
    let at : slice_get c.self.inside.values.items c.args.number ≡ Some c.index.result.now = slice_get-get_or c.self.inside.values.items c.args.number c.index.result.now within ∙ ap (λ (s : Slot). Some s) (sym c.index.ensures) in
    let is = slot_is (rooms c.self.inside.values.items) c.self.inside.values.items c.args.number c.index.result.now c.self.invariant.2 c.self.invariant.3 at in
    record {
      slot = subst (λ (rs : Rooms). IsSlotOf rs c.index.result.now) (ap (λ (p : Planned). p.values) c.self.view_is) is.0;
      number = is.1;
    }
