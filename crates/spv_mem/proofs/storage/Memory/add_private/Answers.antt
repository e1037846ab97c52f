use Rattle.std.proofs.Common.{◌∙◌, ◌<◌, List, ℕ, ap, length, refl, slice_set, subst, sym}
use Rattle.std.proofs.lemmas.Option.{slice_get_read}
use Rattle.std.proofs.lemmas.Result.{on_ok_weaker}
use Rattle.spv_mem.specs.Memory.{Held, IsMemory}
use Rattle.spv_mem.proofs.ChangeLemmas.{private_is, private_kept}
use Rattle.spv_mem.proofs.storage.Memory.add_private.Goals as goal

pub invariant_of-self : goal.invariant_of-self
invariant_of-self c =
    let inside : c.args.inv < length c.self.inside.privates.items = subst (λ (m : Held). c.args.inv < length m.privates) (sym c.self.view_is) c.requires.inside in
    let at = slice_get_read c.self.inside.privates.items (length c.self.inside.privates.items) c.args.inv c.index_mut-roots.result.now refl inside c.index_mut-roots.ensures.value in
    subst (λ (ts : List (ℕ × ℕ)). ∥ IsMemory (record { types = c.self.inside.types.value; targets = ts; shared = c.self.inside.shared; privates = slice_set c.self.inside.privates.items c.args.inv c.push.new.self; locals = c.self.inside.locals.items }) ∥₁) (sym c.note.ensures)
    (private_kept _ c.args.self.now c.args.inv c.args.id c.args.variable c.index_mut-roots.result.now c.push.new.self c.push.result c.self.view_is at c.self.invariant c.requires.may c.push.ensures.ok c.push.ensures.err)

pub returns-clause-ok : goal.returns-clause-ok
returns-clause-ok c =
    let inside : c.args.inv < length c.self.inside.privates.items = subst (λ (m : Held). c.args.inv < length m.privates) (sym c.self.view_is) c.requires.inside in
    let at = slice_get_read c.self.inside.privates.items (length c.self.inside.privates.items) c.args.inv c.index_mut-roots.result.now refl inside c.index_mut-roots.ensures.value in
    on_ok_weaker c.push.result (λ new. ap (λ (ts : List (ℕ × ℕ)). record { types = c.self.inside.types.value; targets = ts; shared = c.self.inside.shared; privates = slice_set c.self.inside.privates.items c.args.inv c.push.new.self; locals = c.self.inside.locals.items }) c.note.ensures
    ∙ private_is _ c.args.self.now c.args.inv c.args.id c.args.variable c.index_mut-roots.result.now c.push.new.self c.self.view_is at new) c.push.ensures.ok
