use Rattle.std.proofs.Common.{◌≡◌, length}
use Rattle.spv_sites.specs.Phis.{source_among}
use Rattle.spv_control.proofs.phis.source_among.Given as goal

-- the label stands beside none of those before
abbrev pub invariant-pairs : goal.invariant-pairs
invariant-pairs l = source_among l.rest l.from ≡ source_among l.operands l.from

abbrev pub decreases-pairs : goal.decreases-pairs
decreases-pairs l = length l.rest
