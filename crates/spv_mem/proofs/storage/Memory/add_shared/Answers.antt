use Rattle.std.proofs.Common.{List, ℕ, subst, sym}
use Rattle.spv_mem.specs.Memory.{IsMemory}
use Rattle.spv_mem.proofs.ChangeLemmas.{shared_kept}
use Rattle.spv_mem.proofs.storage.Memory.add_shared.Goals as goal

pub invariant_of-self : goal.invariant_of-self
invariant_of-self c =
    subst (λ (ts : List (ℕ × ℕ)). ∥ IsMemory (record { types = c.self.inside.types.value; targets = ts; shared = c.push.new.self; privates = c.self.inside.privates.items; locals = c.self.inside.locals.items }) ∥₁) (sym c.note.ensures)
    (shared_kept _ c.args.self.now c.args.id c.args.variable c.push.new.self c.push.result c.self.view_is c.self.invariant c.requires.may c.push.ensures.ok c.push.ensures.err)
