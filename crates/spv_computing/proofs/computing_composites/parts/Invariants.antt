use Rattle.std.proofs.Common.{◌≡◌, take}
use Rattle.spv_computing.proofs.computing_composites.parts.Given as goal

abbrev pub invariant-loop-datum : goal.invariant-loop-datum
invariant-loop-datum l = l.parts.items ≡ take l.datum-index l.values
