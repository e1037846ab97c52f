use Rattle.std.proofs.Common.{◌≡◌, map, take}
use Rattle.spv_frame.specs.Contents.{cells, content}
use Rattle.spv_frame.specs.Phis.{cells_from, given}
use Rattle.spv_frame.proofs.frames.Frame.all_taken.Given as goal

abbrev pub invariant-loop-source : goal.invariant-loop-source
invariant-loop-source l = record {
  contents : map content l.contents.items ≡ map (given l.self) (take l.source-index l.sources);
  cells : map cells l.contents.items ≡ map cells_from (take l.source-index l.sources);
}
