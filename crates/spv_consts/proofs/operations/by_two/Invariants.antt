use Rattle.std.proofs.Common.{◌≡◌, ◌++◌, drop}
use Rattle.std.specs.Simd.Lanes.{zip2}
use Rattle.spv_consts.specs.Operations.{lane_of}
use Rattle.spv_consts.proofs.operations.by_two.Given as goal

-- the lanes so far and those of the pairs that are left
abbrev pub invariant-loop-n : goal.invariant-loop-n
invariant-loop-n l = l.cells.items ++ zip2 (lane_of l.op) (drop l.n l.first) (drop l.n l.second) ≡ zip2 (lane_of l.op) l.first l.second
