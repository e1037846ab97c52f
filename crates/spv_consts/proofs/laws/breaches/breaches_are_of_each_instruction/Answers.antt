use Rattle.spv_consts.proofs.BreachLemmas.{of_each}
use Rattle.spv_consts.proofs.laws.breaches.breaches_are_of_each_instruction.Goals as goal

pub returns : goal.returns
returns c = of_each
