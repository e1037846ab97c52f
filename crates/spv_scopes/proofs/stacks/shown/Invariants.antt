use Rattle.std.proofs.Common.{◌≡◌, ◌++◌, take}
use Rattle.spv_scopes.specs.Shown.{frames_from}
use Rattle.spv_scopes.proofs.stacks.shown.Given as goal

abbrev pub invariant-frames : goal.invariant-frames
invariant-frames l =
    l.frames.items ++ frames_from l.module l.tables l.lines.spots 0 (take l.depth l.stack.frames) ≡ frames_from l.module l.tables l.lines.spots 0 l.stack.frames

abbrev pub decreases-frames : goal.decreases-frames
decreases-frames l = l.depth
