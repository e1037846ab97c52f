use Rattle.std.proofs.Common.{◌≡◌, ◌++◌, drop, map}
use Rattle.spv_index.specs.Positions.{standing, stands, outside}
use Rattle.spv_index.proofs.positions.standings_of.Given as goal

abbrev pub invariant-loop-inst : goal.invariant-loop-inst
invariant-loop-inst l = l.standings.items ++ map standing (stands l.sets l.position (drop l.inst-index l.insts)) ≡ map standing (stands l.sets outside l.insts)
