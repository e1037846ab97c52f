use Rattle.spv_machine.proofs.StatusSteps.{reached_inside}
use Rattle.spv_machine.proofs.ReturnLemmas.{enter_levels, enter_room, enter_variables}
use Rattle.spv_machine.proofs.ReachedLemmas.{Facts, facts, levels_inside}
use Rattle.spv_machine.proofs.applying.enter.Goals as goal

pub enter-requires-clause-stacks : goal.enter-requires-clause-stacks
enter-requires-clause-stacks c = reached_inside c.args.m.now c.args.recorded.now.state c.args.inv c.args.inst.now c.requires.reached

pub enter-requires-clause-room : goal.enter-requires-clause-room
enter-requires-clause-room c =
    let p = c.args.m.now in
    let known : Facts p.accepted = facts p.accepted c.accepted-accepted.result.now c.accepted-accepted.ensures.module c.insts-insts.ensures.accepted c.insts-insts.ensures.valid in
    enter_room p known c.args.recorded.now.state c.args.inv c.args.inst.now c.requires.reached c.args.entered.frame c.args.entered.locals c.requires.fits

pub enter-requires-clause-levels : goal.enter-requires-clause-levels
enter-requires-clause-levels c = levels_inside c.args.m.now c.args.recorded.now.state c.args.inv c.args.inst.now c.requires.reached

pub enter-requires-clause-level : goal.enter-requires-clause-level
enter-requires-clause-level c =
    let p = c.args.m.now in
    let known : Facts p.accepted = facts p.accepted c.accepted-accepted.result.now c.accepted-accepted.ensures.module c.insts-insts.ensures.accepted c.insts-insts.ensures.valid in
    enter_levels p known c.args.recorded.now.state c.args.inv c.args.inst.now c.requires.reached c.args.entered.frame c.args.entered.locals c.requires.fits

pub enter-requires-clause-variables : goal.enter-requires-clause-variables
enter-requires-clause-variables c =
    enter_variables c.args.m.now c.args.recorded.now.state c.args.inv c.args.inst.now c.requires.reached c.args.entered.frame c.args.entered.locals c.requires.fits
