use Rattle.std.proofs.Common.{◌≡◌, None, replicate}
use Rattle.spv_frame.proofs.frames.no_pointers.Given as goal

abbrev pub invariant-loop-number : goal.invariant-loop-number
invariant-loop-number l = l.places.items ≡ replicate l._number None
