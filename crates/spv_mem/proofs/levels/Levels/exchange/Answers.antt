use Rattle.std.proofs.Common.{List, ap, subst, sym, ◌∙◌}
use Rattle.spv_base.specs.Variables.{Roots}
use Rattle.spv_mem.specs.Levels.{FitAt, MayBePutAt}
use Rattle.spv_mem.specs.Memory.{Levels}
use Rattle.spv_mem.proofs.levels.Levels.exchange.Goals as goal

pub exchange_at-requires-clause-fit : goal.exchange_at-requires-clause-fit
exchange_at-requires-clause-fit c =
    subst (λ (ls : List Roots). ∥ FitAt c.args.types.now c.args.target.ty c.args.id ls c.args.depth ∥₁) (sym (c.deref_mut.ensures.value ∙ ap (λ (l : Levels). l.list) c.self.view_is)) c.requires.fit

pub exchange_at-requires-clause-may : goal.exchange_at-requires-clause-may
exchange_at-requires-clause-may c =
    subst (λ (ls : List Roots). ∥ MayBePutAt c.args.types.now c.args.target.ty c.args.id ls c.args.depth c.args.path.now c.args.other.now ∥₁) (sym (c.deref_mut.ensures.value ∙ ap (λ (l : Levels). l.list) c.self.view_is)) c.requires.may
