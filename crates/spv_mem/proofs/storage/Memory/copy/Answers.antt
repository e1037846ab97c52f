use Rattle.std.proofs.Common.{rules}
use Rattle.spv_mem.proofs.ChangeLemmas.{copied_keeps}
use Rattle.spv_mem.proofs.storage.Memory.copy.Goals as goal

pub invariant_of-result : goal.invariant_of-result
invariant_of-result c = copied_keeps _ _ (search rules) c.self.invariant
