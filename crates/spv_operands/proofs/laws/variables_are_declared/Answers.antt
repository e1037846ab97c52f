use Rattle.spv_operands.proofs.VariableLemmas.{variable_declared}
use Rattle.spv_operands.proofs.laws.variables_are_declared.Goals as goal

pub returns : goal.returns
returns c = λ a i is. variable_declared a is (c.accepted_modules_are_valid.ensures a is) i
