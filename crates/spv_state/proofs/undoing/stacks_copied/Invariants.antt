use Rattle.std.proofs.Common.{◌≡◌, take}
use Rattle.spv_state.proofs.undoing.stacks_copied.Given as goal

abbrev pub invariant-loop-stack : goal.invariant-loop-stack
invariant-loop-stack l = l.copies.items ≡ take l.stack-index l.stacks
