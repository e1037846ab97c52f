use Rattle.spv_initial.specs.Start.{local_roots}
use Rattle.spv_state.proofs.EnterLemmas.{enter_all, enter_inside, enter_may, enter_next}
use Rattle.spv_state.proofs.start.enter_each.Goals as goal

pub enter_locals-requires-clause-inside : goal.enter_locals-requires-clause-inside
enter_locals-requires-clause-inside c =
    enter_inside (local_roots c.args.accepted.now c.args.list.now) c.loop-inv.inv c.args.count c.loop-inv.memory c.args.memory.now c.loop-inv.invariant c.requires.count c.loop-inv-test.true

pub enter_locals-requires-clause-may : goal.enter_locals-requires-clause-may
enter_locals-requires-clause-may c =
    enter_may c.args.accepted.now c.args.list.now c.in_ok-locals.locals c.loop-inv.inv c.loop-inv.memory c.args.memory.now c.loop-inv.invariant c.requires.types c.requires.targets c.in_ok-locals.ensures.may

pub loop-inv-preserved : goal.loop-inv-preserved
loop-inv-preserved c =
    enter_next (local_roots c.args.accepted.now c.args.list.now) c.in_ok-locals.locals c.loop-inv.inv c.args.count c.loop-inv.memory c.enter_locals.new.self c.args.memory.now c.loop-inv.invariant
    c.requires.count c.loop-inv-test.true c.in_ok-locals.ensures.value c.in_ok-enter_locals.ensures.ok

pub returns : goal.returns
returns c =
    enter_all (local_roots c.args.accepted.now c.args.list.now) c.loop-inv.inv c.args.count c.loop-inv.memory c.args.memory.now c.loop-inv.invariant c.requires.count c.loop-inv-test.false
