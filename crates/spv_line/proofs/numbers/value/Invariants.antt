use Rattle.std.proofs.Common.{◌≡◌, ◌^◌, min, take}
use Rattle.spv_line.specs.Numbers.{value_of}
use Rattle.spv_line.proofs.numbers.value.Given as goal

abbrev pub invariant-loop-digit : goal.invariant-loop-digit
invariant-loop-digit l = l.value ≡ min (value_of (take l.digit-index l.digits)) (2 ^ 64)
