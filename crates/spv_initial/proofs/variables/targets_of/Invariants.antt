use Rattle.std.proofs.Common.{◌≡◌, take}
use Rattle.spv_initial.specs.Variables.{targets_of}
use Rattle.spv_initial.proofs.variables.targets_of.Given as goal

abbrev pub invariant-loop-declared : goal.invariant-loop-declared
invariant-loop-declared l = l.targets.items ≡ targets_of (take l.declared-index l.list)
