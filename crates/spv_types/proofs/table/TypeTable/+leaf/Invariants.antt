use Rattle.std.proofs.Common.{length}
use Rattle.spv_types.proofs.table.TypeTable.+leaf.Given as goal

-- the path gets shorter
abbrev pub decreases-leaf : goal.decreases-leaf
decreases-leaf l = length l.path.now
