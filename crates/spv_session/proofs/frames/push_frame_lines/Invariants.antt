use Rattle.std.proofs.Common.{◌≡◌, ◌++◌}
use Rattle.std.specs.List.{enumerate_from, flat_map}
use Rattle.spv_scopes.specs.Shown.{shown_below, shown_of}
use Rattle.spv_source.specs.Frames.{frame_line}
use Rattle.spv_session.proofs.frames.push_frame_lines.Given as goal

abbrev pub invariant-calls : goal.invariant-calls
invariant-calls l =
    l.text.items ++ flat_map (λ numbered. frame_line numbered.0 numbered.1) (enumerate_from l.number (shown_below l.module l.tables l.lines.spots l.depth l.stack.frames))
    ≡ l.fn.text.items ++ flat_map (λ numbered. frame_line numbered.0 numbered.1) (enumerate_from 0 (shown_of l.module l.tables l.lines.spots l.stack.frames))

abbrev pub decreases-calls : goal.decreases-calls
decreases-calls l = l.depth
