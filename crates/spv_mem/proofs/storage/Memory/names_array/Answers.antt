use Rattle.spv_mem.proofs.ConditionLemmas.{no_array_unshared}
use Rattle.spv_mem.proofs.storage.Memory.names_array.Goals as goal

pub returns-in_default : goal.returns-in_default
returns-in_default c = (λ h. absurd cc, λ is. absurd (no_array_unshared c.args.self.now c.args.p.now c.args.member c.in_default.not-Shared is))
