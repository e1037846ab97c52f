use Rattle.std.proofs.Common.{◌≡◌, false, is_some, take}
use Rattle.std.specs.List.{list_any}
use Rattle.spv_probe.proofs.slots.any.Given as goal

-- none was there so far
abbrev pub invariant-loop-slot : goal.invariant-loop-slot
invariant-loop-slot g l = list_any is_some (take l.slot-index l.slots) ≡ false
