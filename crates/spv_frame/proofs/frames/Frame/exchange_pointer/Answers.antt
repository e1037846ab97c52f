use Rattle.std.proofs.Common.{◌≡◌, ◌∙◌, Option, Some, sym, ap, arith, slice_get}
use Rattle.std.proofs.lemmas.Option.{slice_get-get_or}
use Rattle.spv_base.specs.declared.values.Pointer.{Pointer}
use Rattle.spv_base.specs.Entries.{writes}
use Rattle.spv_frame.proofs.FrameLemmas.{pointer_exchanged, pointer_is, pointer_opened}
use Rattle.spv_frame.proofs.frames.Frame.exchange_pointer.Goals as goal

pub index_mut-requires : goal.index_mut-requires
index_mut-requires c =
    let o = pointer_opened c.args.self.now c.self.inside.plan.value c.self.inside.pc c.self.inside.row c.self.inside.has.items c.self.inside.pointers.items c.self.inside.events.items c.args.slot.id c.args.slot.number c.self.view_is c.self.invariant c.requires in
    let i = o.within in omega arith

pub returns-clause-after : goal.returns-clause-after
returns-clause-after c =
    let o = pointer_opened c.args.self.now c.self.inside.plan.value c.self.inside.pc c.self.inside.row c.self.inside.has.items c.self.inside.pointers.items c.self.inside.events.items c.args.slot.id c.args.slot.number c.self.view_is c.self.invariant c.requires in
    pointer_exchanged c.args.self.now c.self.inside.plan.value c.self.inside.pc c.self.inside.row c.self.inside.has.items c.self.inside.pointers.items c.self.inside.events.items c.args.slot.id c.args.slot.number c.swap.new.x c.self.view_is o
    ∙ ap (λ (q : Option Pointer). record c.args.self.now { pointers = writes c.args.slot.id q c.args.self.now.pointers }) c.swap.ensures.x_after

pub returns-clause-handed : goal.returns-clause-handed
returns-clause-handed c =
    let o = pointer_opened c.args.self.now c.self.inside.plan.value c.self.inside.pc c.self.inside.row c.self.inside.has.items c.self.inside.pointers.items c.self.inside.events.items c.args.slot.id c.args.slot.number c.self.view_is c.self.invariant c.requires in
    let at : slice_get c.self.inside.pointers.items c.args.slot.number ≡ Some c.swap.new.y =
    slice_get-get_or c.self.inside.pointers.items c.args.slot.number c.index_mut.result.now o.within ∙ ap Some (sym c.index_mut.ensures.value) ∙ ap Some (sym c.swap.ensures.y_after) in
    pointer_is c.args.self.now c.self.inside.plan.value c.self.inside.pc c.self.inside.row c.self.inside.has.items c.self.inside.pointers.items c.self.inside.events.items c.args.slot.id c.args.slot.number c.swap.new.y c.self.view_is o at
