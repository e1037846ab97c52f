use Rattle.std.proofs.Common.{◌≡◌, length}
use Rattle.spv_print.specs.Enums as spec
use Rattle.spv_print.proofs.enums.name_among.Given as goal

abbrev pub invariant-pairs : goal.invariant-pairs
invariant-pairs l = spec.name_among l.tables l.leaf l.number l.pairs ≡ spec.name_among l.tables l.leaf l.number l.fn.pairs

abbrev pub decreases-pairs : goal.decreases-pairs
decreases-pairs l = length l.pairs
