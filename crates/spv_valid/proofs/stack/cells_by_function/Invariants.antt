use Rattle.std.proofs.Common.{◌≡◌, ◌++◌, drop}
use Rattle.std.specs.List.{flat_map}
use Rattle.spv_cfg.specs.Calls.{numbered}
use Rattle.spv_valid.specs.Stack as spec
use Rattle.spv_valid.proofs.stack.cells_by_function.Given as goal

abbrev pub invariant-loop-n : goal.invariant-loop-n
invariant-loop-n l = l.kept.items ++ flat_map (spec.kept_in l.types (numbered 0 l.calls.functions)) (drop l.n l.stands) ≡ spec.cells_by_function l.types l.calls l.stands
