use Rattle.std.proofs.Common.{◌≡◌, take}
use Rattle.spv_initial.specs.Start.{local_roots}
use Rattle.spv_initial.proofs.frames.local_variables.Given as goal

-- the variables so far
abbrev pub invariant-loop-declared : goal.invariant-loop-declared
invariant-loop-declared l = l.locals ≡ local_roots l.accepted (take l.declared-index l.list)
