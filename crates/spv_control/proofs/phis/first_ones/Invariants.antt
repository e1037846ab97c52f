use Rattle.std.proofs.Common.{◌≡◌, ◌++◌, take, drop}
use Rattle.spv_sites.specs.Phis.{first_ones}
use Rattle.spv_control.proofs.phis.first_ones.Given as goal

-- phis and lines alone so far
abbrev pub invariant-loop-n : goal.invariant-loop-n
invariant-loop-n l = first_ones l.sets l.insts ≡ take l.n l.insts ++ first_ones l.sets (drop l.n l.insts)
