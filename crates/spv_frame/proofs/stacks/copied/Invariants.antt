use Rattle.std.proofs.Common.{◌≡◌, ◌≤◌, take, vec_capacity}
use Rattle.spv_frame.proofs.stacks.copied.Given as goal

abbrev pub invariant-loop-frame : goal.invariant-loop-frame
invariant-loop-frame l = record { copies : l.copies.items ≡ take l.frame-index l.frames; room : l.room ≤ vec_capacity l.copies }
