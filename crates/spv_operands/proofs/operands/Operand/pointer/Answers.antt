use Rattle.spv_operands.proofs.ReadingLemmas.{lent_pointer, variable_pointer}
use Rattle.spv_operands.proofs.operands.Operand.pointer.Goals as goal

pub returns-in-Variable : goal.returns-in-Variable
returns-in-Variable c = λ _. variable_pointer c.args.self.now c.in-Variable.root c.whole.result c.in-Variable.is c.whole.ensures

pub returns-in-Pointer : goal.returns-in-Pointer
returns-in-Pointer c = λ _. lent_pointer c.args.self.now c.in-Pointer.pointer c.in-Pointer.is
