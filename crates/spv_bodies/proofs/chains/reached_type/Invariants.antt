use Rattle.std.proofs.Common.{◌≡◌, drop}
use Rattle.spv_bodies.specs.Chains.{reached_type}
use Rattle.spv_bodies.proofs.chains.reached_type.Given as goal

-- the indexes from here on reach what all reach
abbrev pub invariant-loop-index : goal.invariant-loop-index
invariant-loop-index l = reached_type l.context l.ty (drop l.index-index l.indexes) ≡ reached_type l.context l.target l.indexes
