use Rattle.std.proofs.Common.{◌≡◌, ◌++◌, drop, map}
use Rattle.spv_frame.specs.Functions.{numbered}
use Rattle.spv_frame.proofs.functions.numbers_of.Given as goal

abbrev pub invariant-loop-number : goal.invariant-loop-number
invariant-loop-number l = l.numbers.items ++ numbered l.number (map (λ plan. plan.value) (drop l.number l.list)) ≡ numbered 0 (map (λ plan. plan.value) l.list)
