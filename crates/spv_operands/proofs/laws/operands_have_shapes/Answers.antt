use Rattle.spv_operands.proofs.OperandLemmas.{operand_shaped}
use Rattle.spv_operands.proofs.laws.operands_have_shapes.Goals as goal

pub returns-clause-values : goal.returns-clause-values
returns-clause-values c = λ a f depth id ty v is shaped h type. (operand_shaped a is (c.accepted_modules_are_valid.ensures a is) f shaped depth id ty v type h).value

pub returns-clause-pointers : goal.returns-clause-pointers
returns-clause-pointers c = λ a f depth id ty v is shaped h type. (operand_shaped a is (c.accepted_modules_are_valid.ensures a is) f shaped depth id ty v type h).pointer
