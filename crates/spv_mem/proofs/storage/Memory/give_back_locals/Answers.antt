use Rattle.std.proofs.Common.{◌<◌, length, refl, subst, sym}
use Rattle.std.proofs.lemmas.Option.{slice_get_read}
use Rattle.spv_mem.specs.Memory.{Held}
use Rattle.spv_mem.proofs.ChangeLemmas.{entered_is, entered_kept}
use Rattle.spv_mem.proofs.storage.Memory.give_back_locals.Goals as goal

pub invariant_of-self : goal.invariant_of-self
invariant_of-self c =
    let inside : c.args.inv < length c.self.inside.locals.items = subst (λ (m : Held). c.args.inv < length m.locals) (sym c.self.view_is) c.requires.inside in
    let at = slice_get_read c.self.inside.locals.items (length c.self.inside.locals.items) c.args.inv c.index_mut.result.now refl inside c.index_mut.ensures.value in
    entered_kept _ c.args.self.now c.args.inv c.args.locals c.index_mut.result.now c.give_back.new.self c.self.view_is at c.self.invariant c.requires.may c.give_back.ensures

pub returns : goal.returns
returns c =
    let inside : c.args.inv < length c.self.inside.locals.items = subst (λ (m : Held). c.args.inv < length m.locals) (sym c.self.view_is) c.requires.inside in
    let at = slice_get_read c.self.inside.locals.items (length c.self.inside.locals.items) c.args.inv c.index_mut.result.now refl inside c.index_mut.ensures.value in
    entered_is _ c.args.self.now c.args.inv c.args.locals c.index_mut.result.now c.give_back.new.self c.self.view_is at c.give_back.ensures
