use Rattle.std.proofs.Common.{◌≡◌, drop}
use Rattle.spv_types.specs.Build.{unless_refused}
use Rattle.spv_consts.specs.Steps.{breaches_from, after_all}
use Rattle.spv_consts.proofs.steps.after_all.Given as goal

-- what comes of all is what comes of the rest after the state so far
abbrev pub invariant-loop-inst : goal.invariant-loop-inst
invariant-loop-inst l =
    unless_refused (after_all l.context l.fn.walk l.insts) (breaches_from l.context l.fn.walk l.insts)
    ≡ unless_refused (after_all l.context l.walk (drop l.inst-index l.insts)) (breaches_from l.context l.walk (drop l.inst-index l.insts))
