use Rattle.std.proofs.Common.{length}
use Rattle.spv_mem.proofs.places.+reached_type.Given as goal

abbrev pub decreases-reached_type : goal.decreases-reached_type
decreases-reached_type l = length l.path.now
