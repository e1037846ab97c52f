use Rattle.std.proofs.Common.{◌∙◌, ap}
use Rattle.std.proofs.lemmas.List.{take_all}
use Rattle.spv_initial.specs.Start.{local_roots}
use Rattle.spv_initial.proofs.LocalLemmas.{local_fresh, local_next, locals_may}
use Rattle.spv_initial.proofs.VariableLemmas.{item, item_is}
use Rattle.spv_initial.proofs.frames.local_variables.Goals as goal

pub add_local-requires : goal.add_local-requires
add_local-requires c =
    local_fresh c.args.accepted.now c.args.list.now c.loop-declared.declared-index (item c.args.list.now c.loop-declared.declared-index) c.loop-declared.locals c.requires c.loop-declared-test.true
    (item_is c.args.list.now c.loop-declared.declared-index c.loop-declared-test.true) c.loop-declared.invariant

pub loop-declared-preserved : goal.loop-declared-preserved
loop-declared-preserved c =
    local_next c.args.accepted.now c.args.list.now c.loop-declared.declared-index (item c.args.list.now c.loop-declared.declared-index) c.loop-declared.locals c.add_local.new.locals
    c.loop-declared-test.true (item_is c.args.list.now c.loop-declared.declared-index c.loop-declared-test.true) c.loop-declared.invariant c.in_ok-add_local.ensures

pub returns-clause-may : goal.returns-clause-may
returns-clause-may c =
    locals_may c.args.accepted.now c.args.list.now c.loop-declared.locals c.insts-insts.ensures.valid c.requires
    (c.loop-declared.invariant ∙ ap (local_roots c.args.accepted.now) (take_all c.loop-declared.declared-index c.args.list.now c.loop-declared-test.false))
