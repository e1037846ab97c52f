use Rattle.std.proofs.Common.{◌≡◌, ◌∙◌, ◌∷◌, [], ℕ, List, Bool, Some, length, sym, ap, subst, arith, slice_get}
use Rattle.std.proofs.lemmas.Option.{slice_get-get_or}
use Rattle.spv_base.specs.declared.values.Value.{Value}
use Rattle.spv_base.specs.Parts.{with_part}
use Rattle.spv_types.specs.Rows.{leaves}
use Rattle.spv_values.specs.Places.{IsRowAt}
use Rattle.spv_frame.specs.Frames.{with_value_under}
use Rattle.spv_frame.specs.Registers.{marked}
use Rattle.spv_frame.proofs.FrameLemmas.{exchanged, opened, value_is}
use Rattle.spv_frame.proofs.frames.Frame.exchange.Goals as goal

pub exchange_by-requires : goal.exchange_by-requires
exchange_by-requires c =
    let o = opened c.args.self.now c.self.inside.plan.value c.self.inside.pc c.self.inside.row c.self.inside.has.items c.self.inside.pointers.items c.self.inside.events.items c.args.slot.now c.self.view_is c.self.invariant c.requires.slot in
    subst (λ (w : List ℕ). IsRowAt c.self.inside.row w c.args.slot.now.start (length (leaves c.args.value.now))) (sym c.path_to.ensures)
    (subst (λ (m : ℕ). IsRowAt c.self.inside.row (c.args.slot.now.number ∷ []) c.args.slot.now.start m) (sym c.requires.room) o.lies.at)

pub index_mut-requires : goal.index_mut-requires
index_mut-requires c =
    let o = opened c.args.self.now c.self.inside.plan.value c.self.inside.pc c.self.inside.row c.self.inside.has.items c.self.inside.pointers.items c.self.inside.events.items c.args.slot.now c.self.view_is c.self.invariant c.requires.slot in
    let i = o.within in omega arith

pub invariant_of-self : goal.invariant_of-self
invariant_of-self c =
    let o = opened c.args.self.now c.self.inside.plan.value c.self.inside.pc c.self.inside.row c.self.inside.has.items c.self.inside.pointers.items c.self.inside.events.items c.args.slot.now c.self.view_is c.self.invariant c.requires.slot in
    let x = exchanged c.args.self.now c.self.inside.plan.value c.self.inside.pc c.self.inside.row c.self.inside.has.items c.self.inside.pointers.items c.self.inside.events.items c.args.slot.now c.args.value.now c.swap.new.x c.exchange_by.new.self c.self.view_is c.self.invariant o c.requires.room (c.exchange_by.ensures.after ∙ ap (λ (w : List ℕ). with_part c.self.inside.row w c.args.value.now) c.path_to.ensures) in
    x.fits

pub returns : goal.returns
returns c =
    let o = opened c.args.self.now c.self.inside.plan.value c.self.inside.pc c.self.inside.row c.self.inside.has.items c.self.inside.pointers.items c.self.inside.events.items c.args.slot.now c.self.view_is c.self.invariant c.requires.slot in
    record {
      after =
          let x = exchanged c.args.self.now c.self.inside.plan.value c.self.inside.pc c.self.inside.row c.self.inside.has.items c.self.inside.pointers.items c.self.inside.events.items c.args.slot.now c.args.value.now c.swap.new.x c.exchange_by.new.self c.self.view_is c.self.invariant o c.requires.room (c.exchange_by.ensures.after ∙ ap (λ (w : List ℕ). with_part c.self.inside.row w c.args.value.now) c.path_to.ensures) in
          x.shows ∙ ap (λ (b : Bool). with_value_under c.args.slot.now.id (marked c.args.value.now b) c.args.self.now) c.swap.ensures.x_after;
      handed =
          let same : o.lies.tree ≡ c.exchange_by.new.other = let h = o.lies.part in let g = c.exchange_by.ensures.handed in let w = c.path_to.ensures in cc in
          let mark : slice_get c.self.inside.has.items c.args.slot.now.number ≡ Some c.swap.new.y =
          slice_get-get_or c.self.inside.has.items c.args.slot.now.number c.index_mut.result.now o.within ∙ ap Some (sym c.index_mut.ensures.value) ∙ ap Some (sym c.swap.ensures.y_after) in
          value_is c.args.self.now c.self.inside.plan.value c.self.inside.pc c.self.inside.row c.self.inside.has.items c.self.inside.pointers.items c.self.inside.events.items c.args.slot.now c.swap.new.y c.self.view_is o mark ∙ ap (λ (v : Value). Some (marked v c.swap.new.y)) same;
      room =
          let same : o.lies.tree ≡ c.exchange_by.new.other = let h = o.lies.part in let g = c.exchange_by.ensures.handed in let w = c.path_to.ensures in cc in
          ap (λ (v : Value). length (leaves v)) (sym same) ∙ o.lies.size;
    }
