use Rattle.std.proofs.Common.{List, ap, subst, sym, ◌∙◌}
use Rattle.spv_base.specs.Variables.{Roots}
use Rattle.spv_mem.specs.Memory.{Levels}
use Rattle.spv_mem.specs.Singles.{LeafAt}
use Rattle.spv_mem.proofs.levels.Levels.exchange_single.Goals as goal

pub exchange_single_at-requires : goal.exchange_single_at-requires
exchange_single_at-requires c =
    subst (λ (ls : List Roots). ∥ LeafAt c.args.spot.id ls c.args.depth c.args.spot.leaf c.args.path.now.value c.args.other.now ∥₁) (sym (c.deref_mut.ensures.value ∙ ap (λ (l : Levels). l.list) c.self.view_is)) c.requires
