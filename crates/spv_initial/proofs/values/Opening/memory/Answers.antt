use Rattle.spv_initial.proofs.StartLemmas.{starting_is}
use Rattle.spv_initial.proofs.values.Opening.memory.Goals as goal

pub returns : goal.returns
returns c =
    starting_is c.args.self.now.accepted.now c.args.self.now.setup.now c.args.list.now c.invocations.result c.in_ok-memory.memory c.add_all_shared.new.memory c.add_each_own.new.memory c.invocations.ensures.count c.in_ok-memory.ensures
    c.in_ok-add_all_shared.ensures c.in_ok-add_each_own.ensures
