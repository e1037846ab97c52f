use Rattle.std.proofs.Common.{◌<◌, length, refl, subst, sym}
use Rattle.std.proofs.lemmas.Option.{slice_get_read}
use Rattle.spv_mem.specs.Memory.{Held}
use Rattle.spv_mem.proofs.ChangeLemmas.{leaves_is, left_kept, left_variables}
use Rattle.spv_mem.proofs.storage.Memory.leave_locals.Goals as goal

pub invariant_of-self : goal.invariant_of-self
invariant_of-self c =
    let inside : c.args.inv < length c.self.inside.locals.items = subst (λ (m : Held). c.args.inv < length m.locals) (sym c.self.view_is) c.requires in
    let at = slice_get_read c.self.inside.locals.items (length c.self.inside.locals.items) c.args.inv c.index_mut.result.now refl inside c.index_mut.ensures.value in
    left_kept _ c.args.inv c.index_mut.result.now c.pop.new.self c.pop.result at c.self.invariant (c.pop.ensures.room, c.pop.ensures.list)

pub returns : goal.returns
returns c =
    let inside : c.args.inv < length c.self.inside.locals.items = subst (λ (m : Held). c.args.inv < length m.locals) (sym c.self.view_is) c.requires in
    let at = slice_get_read c.self.inside.locals.items (length c.self.inside.locals.items) c.args.inv c.index_mut.result.now refl inside c.index_mut.ensures.value in
    record {
      left = leaves_is _ c.args.self.now c.args.inv c.index_mut.result.now c.pop.new.self c.pop.result c.self.view_is at (c.pop.ensures.room, c.pop.ensures.list);
      variables = left_variables _ c.args.self.now c.args.inv c.index_mut.result.now c.pop.new.self c.pop.result c.self.view_is at c.self.invariant (c.pop.ensures.room, c.pop.ensures.list);
    }
