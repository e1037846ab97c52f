use Rattle.std.proofs.Common.{◌≡◌}
use Rattle.spv_types.proofs.table.TypeTable.count.Given as goal

-- the types stay
abbrev pub invariant-loop : goal.invariant-loop
invariant-loop l = l.self ≡ l.initial.self
