use Rattle.std.proofs.Common.{◌≡◌, length}
use Rattle.std.specs.List.{list_all}
use Rattle.spv_dbg.specs.Forming.{fits}
use Rattle.spv_dbg.proofs.forming.each_fits.Given as goal

abbrev pub invariant-loop-ids : goal.invariant-loop-ids
invariant-loop-ids l = list_all (fits l.module l.marks l.role) l.ids ≡ list_all (fits l.module l.marks l.role) l.initial.ids

abbrev pub decreases-loop-ids : goal.decreases-loop-ids
decreases-loop-ids l = length l.ids
