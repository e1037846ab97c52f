use Rattle.std.proofs.Common.{◌∙◌, ◌<◌, List, ℕ, ap, length, refl, slice_set, subst, sym}
use Rattle.std.proofs.lemmas.Option.{slice_get_read}
use Rattle.std.proofs.lemmas.Result.{on_ok_weaker}
use Rattle.spv_mem.specs.Memory.{Held, IsMemory}
use Rattle.spv_mem.proofs.ChangeLemmas.{entered_is, maybe_entered_kept}
use Rattle.spv_mem.proofs.storage.Memory.enter_locals.Goals as goal

pub invariant_of-self : goal.invariant_of-self
invariant_of-self c =
    let inside : c.args.inv < length c.self.inside.locals.items = subst (λ (m : Held). c.args.inv < length m.locals) (sym c.self.view_is) c.requires.inside in
    let at = slice_get_read c.self.inside.locals.items (length c.self.inside.locals.items) c.args.inv c.index_mut.result.now refl inside c.index_mut.ensures.value in
    subst (λ (ts : List (ℕ × ℕ)). ∥ IsMemory (record { types = c.self.inside.types.value; targets = ts; shared = c.self.inside.shared; privates = c.self.inside.privates.items; locals = slice_set c.self.inside.locals.items c.args.inv c.push.new.self }) ∥₁) (sym c.note_places.ensures)
    (maybe_entered_kept _ c.args.self.now c.args.inv c.args.locals c.index_mut.result.now c.push.new.self c.push.result c.self.view_is at c.self.invariant c.requires.may c.push.ensures.ok c.push.ensures.err)

pub returns-clause-ok : goal.returns-clause-ok
returns-clause-ok c =
    let inside : c.args.inv < length c.self.inside.locals.items = subst (λ (m : Held). c.args.inv < length m.locals) (sym c.self.view_is) c.requires.inside in
    let at = slice_get_read c.self.inside.locals.items (length c.self.inside.locals.items) c.args.inv c.index_mut.result.now refl inside c.index_mut.ensures.value in
    on_ok_weaker c.push.result (λ new. ap (λ (ts : List (ℕ × ℕ)). record { types = c.self.inside.types.value; targets = ts; shared = c.self.inside.shared; privates = c.self.inside.privates.items; locals = slice_set c.self.inside.locals.items c.args.inv c.push.new.self }) c.note_places.ensures
    ∙ entered_is _ c.args.self.now c.args.inv c.args.locals c.index_mut.result.now c.push.new.self c.self.view_is at new) c.push.ensures.ok
