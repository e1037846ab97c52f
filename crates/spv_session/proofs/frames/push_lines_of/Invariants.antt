use Rattle.std.proofs.Common.{◌≡◌, ◌+◌, ◌++◌, drop}
use Rattle.std.specs.List.{enumerate_from, flat_map}
use Rattle.spv_source.specs.Frames.{frame_line}
use Rattle.spv_session.proofs.frames.push_lines_of.Given as goal

abbrev pub invariant-loop-frame : goal.invariant-loop-frame
invariant-loop-frame l = record {
  text : l.text.items ++ flat_map (λ numbered. frame_line numbered.0 numbered.1) (enumerate_from l.number (drop l.frame-index l.frames))
      ≡ l.initial.text.items ++ flat_map (λ numbered. frame_line numbered.0 numbered.1) (enumerate_from l.fn.first l.frames);
  number : l.number ≡ l.fn.first + l.frame-index;
}
