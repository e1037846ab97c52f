use Rattle.std.proofs.Common.{◌≡◌, take}
use Rattle.spv_frame.proofs.frames.pointers_copied.Given as goal

abbrev pub invariant-loop-pointer : goal.invariant-loop-pointer
invariant-loop-pointer l = l.copies.items ≡ take l.pointer-index l.pointers
