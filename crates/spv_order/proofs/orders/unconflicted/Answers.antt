use Rattle.spv_order.proofs.OrderLemmas.{free_all, unconflicted_order}
use Rattle.spv_order.proofs.orders.unconflicted.Goals as goal

pub returns-then-count-events : goal.returns-then-count-events
returns-then-count-events c = unconflicted_order c.args.events.now c.args.count c.requires.arrival c.requires.free c.if-count-events.true

pub returns-else-count-events : goal.returns-else-count-events
returns-else-count-events c = free_all c.args.events.now c.args.count c.if-count-events.false c.requires.free
