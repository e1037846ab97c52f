use Rattle.std.proofs.Common.{◌≡◌, length}
use Rattle.spv_types.specs.Measured.{AreLaid}
use Rattle.spv_types.proofs.layout.are_laid.Given as goal

-- what is known so far
abbrev pub invariant-loop-n : goal.invariant-loop-n
invariant-loop-n l = record {
  laid : AreLaid l.types l.laid.items;
  count : length l.laid.items ≡ l.n;
}
