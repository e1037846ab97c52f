use Rattle.std.proofs.Common.{rules, subst, sym}
use Rattle.spv_statuses.specs.Group.{AreCounted}
use Rattle.spv_statuses.proofs.BarrierLemmas.{counted_close}
use Rattle.spv_statuses.proofs.group.Statuses.close.Goals as goal

pub invariant_of-self : goal.invariant_of-self
invariant_of-self c =
    let inside = c.self.inside in
    let new = c.put.new.self.counts.items in
    subst (λ xs. AreCounted xs 0 inside.finished new) (sym c.close_all.ensures)
    (counted_close inside.list.items c.args.word inside.moving inside.finished inside.waiting.counts.items new (search rules) c.self.invariant.0 c.self.invariant.1 c.self.invariant.2 c.put.ensures.there c.put.ensures.others)
