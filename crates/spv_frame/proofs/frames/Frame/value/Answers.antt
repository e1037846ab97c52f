use Rattle.std.proofs.Common.{◌≡◌, ◌∙◌, Bool, Some, sym, ap, arith, slice_get}
use Rattle.std.proofs.lemmas.Option.{slice_get-get_or}
use Rattle.spv_base.specs.declared.values.Value.{Value}
use Rattle.spv_frame.specs.Registers.{marked}
use Rattle.spv_frame.proofs.FrameLemmas.{opened, value_is}
use Rattle.spv_frame.proofs.frames.Frame.value.Goals as goal

pub index-requires : goal.index-requires
index-requires c =
    let o = opened c.args.self.now c.self.inside.plan.value c.self.inside.pc c.self.inside.row c.self.inside.has.items c.self.inside.pointers.items c.self.inside.events.items c.args.slot.now c.self.view_is c.self.invariant c.requires in
    let i = o.within in omega arith

pub lent-requires : goal.lent-requires
lent-requires c =
    let o = opened c.args.self.now c.self.inside.plan.value c.self.inside.pc c.self.inside.row c.self.inside.has.items c.self.inside.pointers.items c.self.inside.events.items c.args.slot.now c.self.view_is c.self.invariant c.requires in
    o.lies.at

pub returns-then-index : goal.returns-then-index
returns-then-index c =
    let o = opened c.args.self.now c.self.inside.plan.value c.self.inside.pc c.self.inside.row c.self.inside.has.items c.self.inside.pointers.items c.self.inside.events.items c.args.slot.now c.self.view_is c.self.invariant c.requires in
    let same : o.lies.tree ≡ c.lent.result = let h = o.lies.part in let g = c.lent.ensures in cc in
    let mark : slice_get c.self.inside.has.items c.args.slot.now.number ≡ Some c.index.result.now =
    slice_get-get_or c.self.inside.has.items c.args.slot.now.number c.index.result.now o.within ∙ ap Some (sym c.index.ensures) in
    value_is c.args.self.now c.self.inside.plan.value c.self.inside.pc c.self.inside.row c.self.inside.has.items c.self.inside.pointers.items c.self.inside.events.items c.args.slot.now c.index.result.now c.self.view_is o mark ∙ ap (λ (b : Bool). Some (marked o.lies.tree b)) c.if-index.true ∙ ap (λ (v : Value). Some (Some v)) same

pub returns-else-index : goal.returns-else-index
returns-else-index c =
    let o = opened c.args.self.now c.self.inside.plan.value c.self.inside.pc c.self.inside.row c.self.inside.has.items c.self.inside.pointers.items c.self.inside.events.items c.args.slot.now c.self.view_is c.self.invariant c.requires in
    let mark : slice_get c.self.inside.has.items c.args.slot.now.number ≡ Some c.index.result.now =
    slice_get-get_or c.self.inside.has.items c.args.slot.now.number c.index.result.now o.within ∙ ap Some (sym c.index.ensures) in
    value_is c.args.self.now c.self.inside.plan.value c.self.inside.pc c.self.inside.row c.self.inside.has.items c.self.inside.pointers.items c.self.inside.events.items c.args.slot.now c.index.result.now c.self.view_is o mark ∙ ap (λ (b : Bool). Some (marked o.lies.tree b)) c.if-index.false
