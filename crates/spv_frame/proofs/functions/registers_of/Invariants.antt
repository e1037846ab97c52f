use Rattle.std.proofs.Common.{◌≡◌, ◌++◌, drop, map}
use Rattle.spv_frame.specs.Functions.{registers_from, registers_of}
use Rattle.spv_frame.proofs.functions.registers_of.Given as goal

abbrev pub invariant-loop-number : goal.invariant-loop-number
invariant-loop-number l = l.registers.items ++ registers_from l.number (map (λ plan. plan.value) (drop l.number l.list)) ≡ registers_of (map (λ plan. plan.value) l.list)
