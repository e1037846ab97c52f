use Rattle.std.proofs.Common.{◌≡◌, length}
use Rattle.spv_hits.proofs.watches.nothing.Given as goal

abbrev pub invariant-loop-number : goal.invariant-loop-number
invariant-loop-number l = length l.kept.items ≡ l._number
