use Rattle.spv_plans.proofs.DefinedLemmas.{pointer_typed, value_typed}
use Rattle.spv_plans.proofs.FunctionLemmas.{cells_in}
use Rattle.spv_plans.proofs.laws.registers_have_types.Goals as goal

pub returns-clause-values : goal.returns-clause-values
returns-clause-values c =
    let valid = c.accepted_modules_are_valid.ensures in
    λ a function id n accepted has number. value_typed valid a accepted function (λ is. cells_in c.registers_are_counted.ensures valid a is function has) id n number

pub returns-clause-pointers : goal.returns-clause-pointers
returns-clause-pointers c = λ a function id n accepted has number. pointer_typed c.accepted_modules_are_valid.ensures a accepted function id n number
