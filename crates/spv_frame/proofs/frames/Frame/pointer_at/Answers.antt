use Rattle.std.proofs.Common.{◌≡◌, ◌∙◌, length, sym, ap, arith, Some}
use Rattle.spv_frame.specs.Frames.{Held}
use Rattle.spv_frame.specs.Registers.{Planned, number_of}
use Rattle.spv_frame.proofs.ListingLemmas.{listed, pointer_stands}
use Rattle.spv_frame.proofs.frames.Frame.pointer_at.Goals as goal

pub pointer_slot-slot-requires : goal.pointer_slot-slot-requires
pointer_slot-slot-requires c =
    let l = listed c.args.self.now c.self.inside.plan.value c.self.inside.pc c.self.inside.row c.self.inside.has.items c.self.inside.pointers.items c.self.inside.events.items c.self.view_is c.self.invariant in
    let plan : c.deref.result.now ≡ c.args.self.now.plan = c.deref.ensures ∙ ap (λ (x : Held). x.plan) c.self.view_is in
    let many : length c.deref.result.now.pointers ≡ length c.args.self.now.plan.pointers = ap (λ (p : Planned). length p.pointers) plan in
    let long = l.pointers in
    let test = c.requires in
    omega arith

pub returns-clause-at : goal.returns-clause-at
returns-clause-at c =
    let plan : c.deref.result.now ≡ c.args.self.now.plan = c.deref.ensures ∙ ap (λ (x : Held). x.plan) c.self.view_is in
    let named = ap (λ (p : Planned). number_of c.pointer_slot-slot.result.id p.pointers) (sym plan) ∙ c.pointer_slot-slot.ensures.slot ∙ ap Some c.pointer_slot-slot.ensures.number in
    pointer_stands c.args.self.now c.self.inside.plan.value c.self.inside.pc c.self.inside.row c.self.inside.has.items c.self.inside.pointers.items c.self.inside.events.items c.args.number c.pointer_slot-slot.result.id _ c.self.view_is named c.pointer.ensures

pub returns-clause-id : goal.returns-clause-id
returns-clause-id c =
    let plan : c.deref.result.now ≡ c.args.self.now.plan = c.deref.ensures ∙ ap (λ (x : Held). x.plan) c.self.view_is in
    ap (λ (p : Planned). number_of c.pointer_slot-slot.result.id p.pointers) (sym plan) ∙ c.pointer_slot-slot.ensures.slot ∙ ap Some c.pointer_slot-slot.ensures.number

pub returns-clause-read : goal.returns-clause-read
returns-clause-read c = c.pointer.ensures
