use Rattle.std.proofs.Common.{◌≡◌, ◌+◌, drop}
use Rattle.spv_frame.specs.Plans.{total}
use Rattle.spv_frame.proofs.plans.count_of.Given as goal

-- the cells so far, and those of the registers that are left
abbrev pub invariant-loop-register : goal.invariant-loop-register
invariant-loop-register l = l.count + total (drop l.register-index l.values) ≡ total l.values
