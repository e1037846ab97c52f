use Rattle.std.proofs.Common.{◌≡◌, slice_get, take}
use Rattle.spv_scopes.specs.Shown.{frames_from}
use Rattle.spv_scopes.proofs.stacks.shown_at.Given as goal

abbrev pub invariant-frames : goal.invariant-frames
invariant-frames l =
    slice_get (frames_from l.module l.tables l.lines.spots 0 (take l.depth l.stack.frames)) l.left
    ≡ slice_get (frames_from l.module l.tables l.lines.spots 0 l.stack.frames) l.fn.number

abbrev pub decreases-frames : goal.decreases-frames
decreases-frames l = l.depth
