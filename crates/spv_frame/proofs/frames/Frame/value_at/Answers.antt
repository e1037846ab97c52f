use Rattle.std.proofs.Common.{◌≡◌, ◌∙◌, length, sym, ap, arith, Some}
use Rattle.spv_frame.specs.Frames.{Held}
use Rattle.spv_frame.specs.Registers.{Planned, ids, number_of}
use Rattle.spv_frame.proofs.ListingLemmas.{listed, value_stands}
use Rattle.spv_frame.proofs.frames.Frame.value_at.Goals as goal

pub slot-slot-requires : goal.slot-slot-requires
slot-slot-requires c =
    let l = listed c.args.self.now c.self.inside.plan.value c.self.inside.pc c.self.inside.row c.self.inside.has.items c.self.inside.pointers.items c.self.inside.events.items c.self.view_is c.self.invariant in
    let plan : c.deref.result.now ≡ c.args.self.now.plan = c.deref.ensures ∙ ap (λ (x : Held). x.plan) c.self.view_is in
    let many : length c.deref.result.now.values ≡ length c.args.self.now.plan.values = ap (λ (p : Planned). length p.values) plan in
    let long = l.values in
    let test = c.requires in
    omega arith

pub returns-clause-at : goal.returns-clause-at
returns-clause-at c =
    let plan : c.deref.result.now ≡ c.args.self.now.plan = c.deref.ensures ∙ ap (λ (x : Held). x.plan) c.self.view_is in
    let named = ap (λ (p : Planned). number_of c.slot-slot.result.now.id (ids p.values)) (sym plan) ∙ c.slot-slot.ensures.slot.named ∙ ap Some c.slot-slot.ensures.number in
    value_stands c.args.self.now c.self.inside.plan.value c.self.inside.pc c.self.inside.row c.self.inside.has.items c.self.inside.pointers.items c.self.inside.events.items c.args.number c.slot-slot.result.now.id c.value.result c.self.view_is named c.value.ensures

pub returns-clause-id : goal.returns-clause-id
returns-clause-id c =
    let plan : c.deref.result.now ≡ c.args.self.now.plan = c.deref.ensures ∙ ap (λ (x : Held). x.plan) c.self.view_is in
    ap (λ (p : Planned). number_of c.slot-slot.result.now.id (ids p.values)) (sym plan) ∙ c.slot-slot.ensures.slot.named ∙ ap Some c.slot-slot.ensures.number

pub returns-clause-read : goal.returns-clause-read
returns-clause-read c = c.value.ensures
