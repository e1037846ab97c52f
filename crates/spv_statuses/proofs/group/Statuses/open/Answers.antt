use Rattle.std.proofs.Common.{rules, subst, sym}
use Rattle.spv_statuses.specs.Group.{AreCounted}
use Rattle.spv_statuses.proofs.BarrierLemmas.{counted_open}
use Rattle.spv_statuses.proofs.group.Statuses.open.Goals as goal

pub invariant_of-self : goal.invariant_of-self
invariant_of-self c =
    let inside = c.self.inside in
    let new = c.put.new.self.counts.items in
    subst (λ xs. AreCounted xs c.at-self-inside.result inside.finished new) (sym c.open_all.ensures)
    (counted_open inside.list.items c.args.word c.at-self-inside.result inside.finished inside.waiting.counts.items new (search rules) c.at-self-inside.ensures c.self.invariant.1 c.self.invariant.2 c.put.ensures.there c.put.ensures.others)
