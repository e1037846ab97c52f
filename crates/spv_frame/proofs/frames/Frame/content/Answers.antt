use Rattle.std.proofs.Common.{◌≡◌, ◌∙◌, Some, length, sym, ap, arith, slice_get}
use Rattle.std.proofs.lemmas.Option.{slice_get-get_or}
use Rattle.spv_base.specs.declared.values.Value.{Value}
use Rattle.spv_types.specs.Rows.{leaves}
use Rattle.spv_frame.specs.Registers.{marked}
use Rattle.spv_frame.proofs.FrameLemmas.{opened, value_is}
use Rattle.spv_frame.proofs.frames.Frame.content.Goals as goal

pub lent-part-requires : goal.lent-part-requires
lent-part-requires c =
    let o = opened c.args.self.now c.self.inside.plan.value c.self.inside.pc c.self.inside.row c.self.inside.has.items c.self.inside.pointers.items c.self.inside.events.items c.args.slot.now c.self.view_is c.self.invariant c.requires in
    o.lies.at

pub index-requires : goal.index-requires
index-requires c =
    let o = opened c.args.self.now c.self.inside.plan.value c.self.inside.pc c.self.inside.row c.self.inside.has.items c.self.inside.pointers.items c.self.inside.events.items c.args.slot.now c.self.view_is c.self.invariant c.requires in
    let i = o.within in omega arith

pub returns : goal.returns
returns c =
    let o = opened c.args.self.now c.self.inside.plan.value c.self.inside.pc c.self.inside.row c.self.inside.has.items c.self.inside.pointers.items c.self.inside.events.items c.args.slot.now c.self.view_is c.self.invariant c.requires in
    let same : o.lies.tree ≡ c.lent-part.result = let h = o.lies.part in let g = c.lent-part.ensures in cc in
    record {
      content =
          let mark : slice_get c.self.inside.has.items c.args.slot.now.number ≡ Some c.index.result.now =
          slice_get-get_or c.self.inside.has.items c.args.slot.now.number c.index.result.now o.within ∙ ap Some (sym c.index.ensures) in
          value_is c.args.self.now c.self.inside.plan.value c.self.inside.pc c.self.inside.row c.self.inside.has.items c.self.inside.pointers.items c.self.inside.events.items c.args.slot.now c.index.result.now c.self.view_is o mark ∙ ap (λ (v : Value). Some (marked v c.index.result.now)) (same ∙ sym c.in_ok-of_part.ensures);
      cells = ap (λ (v : Value). length (leaves v)) (c.in_ok-of_part.ensures ∙ sym same) ∙ o.lies.size;
    }
