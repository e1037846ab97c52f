use Rattle.std.proofs.Common.{◌≡◌, ◌∙◌, Option, Some, sym, ap, arith, slice_get}
use Rattle.std.proofs.lemmas.Option.{slice_get-get_or}
use Rattle.spv_base.specs.declared.values.Pointer.{Pointer}
use Rattle.spv_frame.proofs.FrameLemmas.{pointer_is, pointer_opened}
use Rattle.spv_frame.proofs.frames.Frame.pointer.Goals as goal

pub index-requires : goal.index-requires
index-requires c =
    let o = pointer_opened c.args.self.now c.self.inside.plan.value c.self.inside.pc c.self.inside.row c.self.inside.has.items c.self.inside.pointers.items c.self.inside.events.items c.args.slot.id c.args.slot.number c.self.view_is c.self.invariant c.requires in
    let i = o.within in omega arith

pub returns : goal.returns
returns c =
    let o = pointer_opened c.args.self.now c.self.inside.plan.value c.self.inside.pc c.self.inside.row c.self.inside.has.items c.self.inside.pointers.items c.self.inside.events.items c.args.slot.id c.args.slot.number c.self.view_is c.self.invariant c.requires in
    let at : slice_get c.self.inside.pointers.items c.args.slot.number ≡ Some c.index.result.now =
    slice_get-get_or c.self.inside.pointers.items c.args.slot.number c.index.result.now o.within ∙ ap Some (sym c.index.ensures) in
    pointer_is c.args.self.now c.self.inside.plan.value c.self.inside.pc c.self.inside.row c.self.inside.has.items c.self.inside.pointers.items c.self.inside.events.items c.args.slot.id c.args.slot.number c.index.result.now c.self.view_is o at ∙ ap (λ (q : Option Pointer). Some q) (sym c.as_ref.ensures.value)
