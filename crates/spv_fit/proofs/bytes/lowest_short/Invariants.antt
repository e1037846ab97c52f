use Rattle.std.proofs.Common.{◌≡◌, ◌≤◌, drop, length}
use Rattle.spv_fit.specs.Given.{lowest_short}
use Rattle.spv_fit.proofs.bytes.lowest_short.Given as goal

abbrev pub invariant-back : goal.invariant-back
invariant-back l = record {
  within : l.n ≤ length l.insts;
  lowest : l.lowest ≡ lowest_short l.index.insts l.types l.setup (drop l.n l.insts);
}

abbrev pub decreases-back : goal.decreases-back
decreases-back l = l.n
