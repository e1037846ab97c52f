use Rattle.spv_state.proofs.SlotLemmas.{no_pointer}
use Rattle.spv_state.proofs.registers.pointer_slot.Goals as goal

pub returns-in-Value : goal.returns-in-Value
returns-in-Value c = no_pointer c.args.plan.now c.args.id c.in-Value.field-0 c.requires.apart (rw c.in-Value.is at c.requires.stands)
