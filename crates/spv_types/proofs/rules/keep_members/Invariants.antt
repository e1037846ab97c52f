use Rattle.std.proofs.Common.{◌≡◌, drop}
use Rattle.spv_types.specs.Rules.{keep_members}
use Rattle.spv_types.proofs.rules.keep_members.Given as goal

-- the members so far keep the rules
abbrev pub invariant-loop-n : goal.invariant-loop-n
invariant-loop-n l = keep_members l.types l.block l.members ≡ keep_members l.types l.block (drop l.n l.members)
