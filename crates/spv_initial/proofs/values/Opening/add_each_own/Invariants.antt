use Rattle.std.proofs.Common.{◌≡◌, ◌≤◌}
use Rattle.spv_initial.specs.Start.{own_roots}
use Rattle.spv_initial.proofs.StartLemmas.{owned_from}
use Rattle.spv_initial.proofs.values.Opening.add_each_own.Given as goal

-- the invocations from number `left` on have their variables
abbrev pub invariant-each : goal.invariant-each
invariant-each l = record {
  within : l.left ≤ l.count;
  memory : l.memory ≡ record l.fn.memory { privates = owned_from (own_roots l.self.accepted.now l.self.setup.now l.list) l.left l.count };
}

abbrev pub decreases-each : goal.decreases-each
decreases-each l = l.left
