use Rattle.std.proofs.Common.{◌≡◌, ◌≤◌, drop, length}
use Rattle.spv_valid.specs.Acceptance.{Accepted}
use Rattle.spv_dbg.specs.Tables.{Tables}
use Rattle.spv_scopes.specs.Shown.{frames_from}
use Rattle.spv_scopes.proofs.stacks.shown_count.Given as goal

abbrev pub invariant-frames : goal.invariant-frames
invariant-frames l = record {
  within : l.depth ≤ length l.stack.frames;
  same : (m : Accepted) (t : Tables) → l.count ≡ length (frames_from m t l.lines.spots l.depth (drop l.depth l.stack.frames));
}

abbrev pub decreases-frames : goal.decreases-frames
decreases-frames l = l.depth
