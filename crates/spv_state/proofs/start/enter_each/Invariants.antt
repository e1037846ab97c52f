use Rattle.std.proofs.Common.{◌≡◌}
use Rattle.spv_initial.specs.Start.{local_roots}
use Rattle.spv_state.proofs.EnterLemmas.{entered_to}
use Rattle.spv_state.proofs.start.enter_each.Given as goal

-- the first so many invocations have entered a frame
abbrev pub invariant-loop-inv : goal.invariant-loop-inv
invariant-loop-inv l = l.memory ≡ entered_to (local_roots l.accepted l.list) l.inv l.fn.memory
