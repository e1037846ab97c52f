use Rattle.spv_state.proofs.BegunLemmas.{begun_is, function_are, function_targets, starting_count, starting_types}
use Rattle.spv_state.proofs.start.memory.Goals as goal

pub enter_each-requires-clause-count : goal.enter_each-requires-clause-count
enter_each-requires-clause-count c =
    starting_count c.accepted-accepted.result.now c.setup.result.now c.in_ok-memory.memory c.invocations.result c.in_ok-memory.ensures c.invocations.ensures.count

pub enter_each-requires-clause-types : goal.enter_each-requires-clause-types
enter_each-requires-clause-types c = starting_types c.accepted-accepted.result.now c.setup.result.now c.in_ok-memory.memory c.in_ok-memory.ensures

pub enter_each-requires-clause-are : goal.enter_each-requires-clause-are
enter_each-requires-clause-are c =
    function_are c.accepted-accepted.result.now c.args.m.now.accepted c.entry.result c.variables-list.result.now c.accepted-accepted.ensures.module c.insts-insts.ensures.valid c.variables-list.ensures

pub enter_each-requires-clause-targets : goal.enter_each-requires-clause-targets
enter_each-requires-clause-targets c =
    function_targets c.accepted-accepted.result.now c.args.m.now.accepted c.setup.result.now c.entry.result c.in_ok-memory.memory c.variables-list.result.now c.accepted-accepted.ensures.module
    c.insts-insts.ensures.valid c.in_ok-memory.ensures c.variables-list.ensures

pub returns : goal.returns
returns c =
    begun_is c.args.m.now.accepted c.accepted-accepted.result.now c.args.m.now.setup c.setup.result.now c.entry.result c.variables-list.result.now c.in_ok-memory.memory c.enter_each.new.memory
    c.accepted-accepted.ensures.module c.setup.ensures.setup c.entry.ensures.entry c.variables-list.ensures c.in_ok-memory.ensures c.in_ok-enter_each.ensures
