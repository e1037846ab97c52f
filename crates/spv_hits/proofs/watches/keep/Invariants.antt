use Rattle.std.proofs.Common.{◌≡◌, take}
use Rattle.spv_hits.specs.Kept.{watched_by}
use Rattle.spv_hits.proofs.watches.keep.Given as goal

abbrev pub invariant-loop-n : goal.invariant-loop-n
invariant-loop-n l = take l.n l.kept ≡ watched_by l.tables (take l.n l.watches) l.group.group
