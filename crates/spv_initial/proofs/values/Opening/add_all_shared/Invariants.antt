use Rattle.std.proofs.Common.{◌≡◌, take}
use Rattle.spv_initial.specs.Start.{shared_roots}
use Rattle.spv_initial.proofs.values.Opening.add_all_shared.Given as goal

-- the variables so far
abbrev pub invariant-loop-declared : goal.invariant-loop-declared
invariant-loop-declared l = l.memory ≡ record l.fn.memory { shared = shared_roots l.self.accepted.now l.self.setup.now (take l.declared-index l.list) }
