use Rattle.std.proofs.Common.{◌≡◌, ◌++◌, drop}
use Rattle.spv_frame.specs.Functions.{placed}
use Rattle.spv_frame.specs.declared.slots.Place.TheVariants.{Pointer}
use Rattle.spv_frame.proofs.functions.list_pointers.Given as goal

abbrev pub invariant-loop-number : goal.invariant-loop-number
invariant-loop-number l = l.registers.items ++ placed l.plan Pointer l.number (drop l.number l.pointers) ≡ l.initial.registers.items ++ placed l.plan Pointer 0 l.pointers
