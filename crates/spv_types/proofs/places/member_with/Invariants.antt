use Rattle.std.proofs.Common.{◌<◌, ◌≤◌, ◌-◌, length}
use Rattle.spv_types.specs.Cells.{cells_of}
use Rattle.spv_types.specs.Places.{BeginsBy}
use Rattle.spv_types.proofs.places.member_with.Given as goal

-- the member is not before the lower one, and before the higher one
abbrev pub invariant-loop-high : goal.invariant-loop-high
invariant-loop-high l = record {
  order : l.low < l.high;
  inside : l.high ≤ length l.members;
  begins : BeginsBy (cells_of l.types) l.members l.low l.leaf;
  later : l.high < length l.members → ¬ (BeginsBy (cells_of l.types) l.members l.high l.leaf);
}

abbrev pub decreases-loop-high : goal.decreases-loop-high
decreases-loop-high l = l.high - l.low
