use Rattle.std.proofs.Common.{length}
use Rattle.spv_mem.proofs.conditions.+end_open.Given as goal

abbrev pub decreases-end_open : goal.decreases-end_open
decreases-end_open l = length l.members.now
