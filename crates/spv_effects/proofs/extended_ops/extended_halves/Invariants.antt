use Rattle.std.proofs.Common.{◌≡◌, take}
use Rattle.spv_effects.specs.ExtendedOps.{high_lanes, low_lanes}
use Rattle.spv_effects.proofs.extended_ops.extended_halves.Given as goal

abbrev pub invariant-loop-i : goal.invariant-loop-i
invariant-loop-i l = record {
  low : take l.i l.low ≡ low_lanes l.operation (take l.i l.a) (take l.i l.b);
  high : take l.i l.high ≡ high_lanes l.operation (take l.i l.a) (take l.i l.b);
}
