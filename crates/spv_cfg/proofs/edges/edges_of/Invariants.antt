use Rattle.std.proofs.Common.{◌≡◌, ◌++◌, drop}
use Rattle.std.specs.List.{flat_map}
use Rattle.spv_cfg.specs.Phis.{edges_from}
use Rattle.spv_cfg.proofs.edges.edges_of.Given as goal

abbrev pub invariant-loop-n : goal.invariant-loop-n
invariant-loop-n l = l.edges.items ++ flat_map (edges_from l.index.insts) (drop l.n l.stands) ≡ flat_map (edges_from l.index.insts) l.stands
