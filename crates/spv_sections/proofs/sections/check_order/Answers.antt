use Rattle.std.proofs.Common.{◌∙◌, ap, max, arith}
use Rattle.spv_index.specs.Positions.{Stand}
use Rattle.spv_sections.proofs.OrderLemmas.{order_done, order_kept, order_refused}
use Rattle.spv_sections.proofs.sections.check_order.Goals as goal

pub returns-then-not-may_stand : goal.returns-then-not-may_stand
returns-then-not-may_stand c =
    let s : Stand = record { position = c.at-stand.result.position; class = c.at-stand.result.class; inst = c.at-stand.result.inst.now } in
    order_refused c.args.stands.now c.loop-n.n c.loop-n.reached s c.part_of-part.result c.at-stand.ensures c.part_of-part.ensures c.if-not-may_stand.ensures c.loop-n.invariant

pub loop-n-preserved : goal.loop-n-preserved
loop-n-preserved c =
    let s : Stand = record { position = c.at-stand.result.position; class = c.at-stand.result.class; inst = c.at-stand.result.inst.now } in
    order_kept c.args.stands.now c.loop-n.n c.loop-n.reached c.max-reached.result s c.part_of-part.result c.at-stand.ensures c.part_of-part.ensures c.if-not-may_stand.ensures
    (c.max-reached.ensures ∙ ap (λ rank. max c.loop-n.reached rank) c.rank.ensures) c.loop-n.invariant

pub returns : goal.returns
returns c = order_done c.args.stands.now c.loop-n.n c.loop-n.reached (omega arith) c.loop-n.invariant
