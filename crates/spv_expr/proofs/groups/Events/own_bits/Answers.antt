use Rattle.std.proofs.Common.{List, subst}
use Rattle.std.specs.Prelude.{IfOk}
use Rattle.spv_base.specs.declared.values.PassedEvent.{PassedEvent}
use Rattle.spv_dbg.specs.Tables.{Tables}
use Rattle.spv_expr.specs.Bits.{AreBits, events_in, local_bit}
use Rattle.spv_expr.proofs.GroupLemmas.{if_picked}
use Rattle.spv_expr.proofs.groups.Events.own_bits.Goals as goal

pub returns : goal.returns
returns c =
    let m = c.args.view.now.memory.now in
    let inv = c.args.view.now.inv in
    let v = c.args.instance in
    if_picked m inv c.args.self.now.tables v (events_in c.args.self.now.stack c.args.self.now.frame) c.args.first c.args.count c.local_bits.result
    (subst (λ (own : List PassedEvent). IfOk c.local_bits.result (λ bits. AreBits (local_bit m inv c.args.self.now.tables own v) c.args.first c.args.count bits.items)) c.of_variable-own.ensures
    (subst (λ (t : Tables). IfOk c.local_bits.result (λ bits. AreBits (local_bit m inv t c.of_variable-own.result v) c.args.first c.args.count bits.items)) c.requires.same c.local_bits.ensures))
