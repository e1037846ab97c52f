use Rattle.std.proofs.Common.{◌≡◌, ◌++◌, drop}
use Rattle.spv_frame.specs.Functions.{placed}
use Rattle.spv_frame.specs.Plans.{rooms}
use Rattle.spv_frame.specs.Registers.{ids}
use Rattle.spv_frame.specs.declared.slots.Place.TheVariants.{Value}
use Rattle.spv_frame.proofs.functions.list_values.Given as goal

abbrev pub invariant-loop-number : goal.invariant-loop-number
invariant-loop-number l = l.registers.items ++ placed l.plan Value l.number (ids (rooms (drop l.number l.slots))) ≡ l.initial.registers.items ++ placed l.plan Value 0 (ids (rooms l.slots))
