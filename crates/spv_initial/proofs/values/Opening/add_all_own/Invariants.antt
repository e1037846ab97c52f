use Rattle.std.proofs.Common.{◌≡◌, take}
use Rattle.spv_initial.specs.Start.{own_roots}
use Rattle.spv_initial.proofs.StartLemmas.{with_own}
use Rattle.spv_initial.proofs.values.Opening.add_all_own.Given as goal

-- the variables so far
abbrev pub invariant-loop-declared : goal.invariant-loop-declared
invariant-loop-declared l = l.memory ≡ with_own l.inv (own_roots l.self.accepted.now l.self.setup.now (take l.declared-index l.list) l.inv) l.fn.memory
