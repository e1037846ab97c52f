use Rattle.std.proofs.Common.{◌≡◌, ◌++◌, drop}
use Rattle.spv_alu.specs.Lanes.{zip3}
use Rattle.spv_consts.specs.Lanes.{select_lane}
use Rattle.spv_consts.proofs.operations.by_three.Given as goal

-- the lanes so far and those of the triples that are left
abbrev pub invariant-loop-n : goal.invariant-loop-n
invariant-loop-n l = l.cells.items ++ zip3 select_lane (drop l.n l.conditions) (drop l.n l.first) (drop l.n l.second) ≡ zip3 select_lane l.conditions l.first l.second
