use Rattle.std.proofs.Common.{◌≡◌, ◌∙◌, ℕ, List, Bool, Some, length, refl, sym, ap, arith, slice_get}
use Rattle.std.proofs.lemmas.Option.{slice_get-get_or}
use Rattle.spv_base.specs.declared.values.Value.{Value}
use Rattle.spv_base.specs.Parts.{with_part}
use Rattle.spv_types.specs.Rows.{leaves}
use Rattle.spv_frame.specs.Numbers.{with_value}
use Rattle.spv_frame.specs.Registers.{marked}
use Rattle.spv_frame.proofs.FrameLemmas.{exchanged, value_is}
use Rattle.spv_frame.proofs.NumberLemmas.{placed, slot_at}
use Rattle.spv_frame.proofs.frames.Frame.exchange_numbered.Goals as goal

pub exchange_by-requires : goal.exchange_by-requires
exchange_by-requires c =
    let l = placed c.args.self.now c.self.inside.plan.value c.deref.result.now c.self.inside.pc c.self.inside.row c.self.inside.has.items c.self.inside.pointers.items c.self.inside.events.items c.args.number (length (leaves c.args.value.now)) c.found-place.result.path.value c.found-place.result.start c.self.view_is c.self.invariant c.deref.ensures c.requires c.found-place.ensures.path c.found-place.ensures.start c.found-place.ensures.named in
    l.at

pub index_mut-requires : goal.index_mut-requires
index_mut-requires c =
    let l = placed c.args.self.now c.self.inside.plan.value c.deref.result.now c.self.inside.pc c.self.inside.row c.self.inside.has.items c.self.inside.pointers.items c.self.inside.events.items c.args.number (length (leaves c.args.value.now)) c.found-place.result.path.value c.found-place.result.start c.self.view_is c.self.invariant c.deref.ensures c.requires c.found-place.ensures.path c.found-place.ensures.start c.found-place.ensures.named in
    let i = l.opened.within in omega arith

pub invariant_of-self : goal.invariant_of-self
invariant_of-self c =
    let l = placed c.args.self.now c.self.inside.plan.value c.deref.result.now c.self.inside.pc c.self.inside.row c.self.inside.has.items c.self.inside.pointers.items c.self.inside.events.items c.args.number (length (leaves c.args.value.now)) c.found-place.result.path.value c.found-place.result.start c.self.view_is c.self.invariant c.deref.ensures c.requires c.found-place.ensures.path c.found-place.ensures.start c.found-place.ensures.named in
    let long : length (leaves c.args.value.now) ≡ (length (leaves c.args.value.now)) = refl in
    let x = exchanged c.args.self.now c.self.inside.plan.value c.self.inside.pc c.self.inside.row c.self.inside.has.items c.self.inside.pointers.items c.self.inside.events.items (slot_at c.args.self.now.plan.values c.args.number (length (leaves c.args.value.now))) c.args.value.now c.swap.new.x c.exchange_by.new.self c.self.view_is c.self.invariant l.opened long (c.exchange_by.ensures.after ∙ ap (λ (w : List ℕ). with_part c.self.inside.row w c.args.value.now) l.way) in
    x.fits

pub returns : goal.returns
returns c =
    let l = placed c.args.self.now c.self.inside.plan.value c.deref.result.now c.self.inside.pc c.self.inside.row c.self.inside.has.items c.self.inside.pointers.items c.self.inside.events.items c.args.number (length (leaves c.args.value.now)) c.found-place.result.path.value c.found-place.result.start c.self.view_is c.self.invariant c.deref.ensures c.requires c.found-place.ensures.path c.found-place.ensures.start c.found-place.ensures.named in
    record {
      after =
          let long : length (leaves c.args.value.now) ≡ (length (leaves c.args.value.now)) = refl in
          let x = exchanged c.args.self.now c.self.inside.plan.value c.self.inside.pc c.self.inside.row c.self.inside.has.items c.self.inside.pointers.items c.self.inside.events.items (slot_at c.args.self.now.plan.values c.args.number (length (leaves c.args.value.now))) c.args.value.now c.swap.new.x c.exchange_by.new.self c.self.view_is c.self.invariant l.opened long (c.exchange_by.ensures.after ∙ ap (λ (w : List ℕ). with_part c.self.inside.row w c.args.value.now) l.way) in
          x.shows ∙ ap (λ (b : Bool). with_value c.args.number (marked c.args.value.now b) c.args.self.now) c.swap.ensures.x_after;
      handed =
          let o = l.opened in
          let same : o.lies.tree ≡ c.exchange_by.new.other = let h = o.lies.part in let g = c.exchange_by.ensures.handed in let w = l.way in cc in
          let mark : slice_get c.self.inside.has.items c.args.number ≡ Some c.swap.new.y =
          slice_get-get_or c.self.inside.has.items c.args.number c.index_mut.result.now o.within ∙ ap Some (sym c.index_mut.ensures.value) ∙ ap Some (sym c.swap.ensures.y_after) in
          value_is c.args.self.now c.self.inside.plan.value c.self.inside.pc c.self.inside.row c.self.inside.has.items c.self.inside.pointers.items c.self.inside.events.items (slot_at c.args.self.now.plan.values c.args.number (length (leaves c.args.value.now))) c.swap.new.y c.self.view_is o mark ∙ ap (λ (v : Value). Some (marked v c.swap.new.y)) same;
    }
