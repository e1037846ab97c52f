use Rattle.std.proofs.Common.{◌≡◌, drop}
use Rattle.spv_base.specs.Lowest.{lower, lowest}
use Rattle.spv_cfg.specs.Calls.{too_deep}
use Rattle.spv_cfg.proofs.calls.call_breach.Given as goal

abbrev pub invariant-loop-k : goal.invariant-loop-k
invariant-loop-k l = lower l.least (lowest (too_deep (drop l.k l.functions) (drop l.k l.lengths))) ≡ lowest (too_deep l.functions l.lengths)
