use Rattle.std.proofs.Common.{◌≡◌, length}
use Rattle.spv_dbg.specs.Forming.{pairs_fit}
use Rattle.spv_dbg.proofs.forming.pairs_fit.Given as goal

abbrev pub invariant-loop-ids : goal.invariant-loop-ids
invariant-loop-ids l = pairs_fit l.module l.marks l.first l.second l.ids ≡ pairs_fit l.module l.marks l.first l.second l.initial.ids

abbrev pub decreases-loop-ids : goal.decreases-loop-ids
decreases-loop-ids l = length l.ids
