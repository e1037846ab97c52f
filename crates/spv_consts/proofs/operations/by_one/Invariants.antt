use Rattle.std.proofs.Common.{◌≡◌, ◌++◌, drop, map}
use Rattle.spv_consts.specs.Lanes.{unary_lane}
use Rattle.spv_consts.proofs.operations.by_one.Given as goal

-- the lanes so far and those of the lanes that are left
abbrev pub invariant-loop-a : goal.invariant-loop-a
invariant-loop-a l = l.cells.items ++ map (unary_lane l.op l.width) (drop l.a-index l.row) ≡ map (unary_lane l.op l.width) l.row
