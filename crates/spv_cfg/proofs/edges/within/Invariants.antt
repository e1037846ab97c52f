use Rattle.std.proofs.Common.{◌≡◌, ◌++◌, drop}
use Rattle.std.specs.List.{filter}
use Rattle.spv_cfg.specs.Branches.{is_within}
use Rattle.spv_cfg.proofs.edges.within.Given as goal

abbrev pub invariant-loop-target : goal.invariant-loop-target
invariant-loop-target l = l.kept.items ++ filter (is_within l.index.insts l.function) (drop l.target-index l.targets) ≡ filter (is_within l.index.insts l.function) l.targets
