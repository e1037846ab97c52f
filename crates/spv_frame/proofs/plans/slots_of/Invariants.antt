use Rattle.std.proofs.Common.{◌≡◌, ◌++◌, drop}
use Rattle.spv_frame.specs.Plans.{slots_from, slots_of}
use Rattle.spv_frame.proofs.plans.slots_of.Given as goal

-- the slots so far, and those of the registers that are left
abbrev pub invariant-loop-number : goal.invariant-loop-number
invariant-loop-number l = l.slots.items ++ slots_from l.number l.start (drop l.number l.values) ≡ slots_of l.values
