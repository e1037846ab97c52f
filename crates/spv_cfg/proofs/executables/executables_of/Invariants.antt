use Rattle.std.proofs.Common.{◌≡◌, ◌++◌, drop}
use Rattle.std.specs.List.{flat_map}
use Rattle.spv_cfg.specs.Executables.{executable_of}
use Rattle.spv_cfg.proofs.executables.executables_of.Given as goal

abbrev pub invariant-loop-n : goal.invariant-loop-n
invariant-loop-n l = l.executables.items ++ flat_map (executable_of) (drop l.n l.stands) ≡ flat_map (executable_of) l.stands
