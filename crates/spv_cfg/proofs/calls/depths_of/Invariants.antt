use Rattle.std.proofs.Common.{◌≡◌, ◌++◌, drop}
use Rattle.spv_cfg.specs.Calls.{depths}
use Rattle.spv_cfg.proofs.calls.depths_of.Given as goal

abbrev pub invariant-loop-k : goal.invariant-loop-k
invariant-loop-k l = l.depths.items ++ depths (drop l.k l.functions) (drop l.k l.lengths) ≡ depths l.functions l.lengths
