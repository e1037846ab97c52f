use Rattle.std.proofs.Common.{◌≡◌, ◌++◌, drop}
use Rattle.spv_cfg.specs.Calls.{numbered}
use Rattle.spv_cfg.proofs.calls.numbers_by_id.Given as goal

abbrev pub invariant-loop-k : goal.invariant-loop-k
invariant-loop-k l = l.numbers.items ++ numbered l.k (drop l.k l.functions) ≡ numbered 0 l.functions
