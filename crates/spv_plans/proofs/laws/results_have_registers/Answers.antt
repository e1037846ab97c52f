use Rattle.spv_plans.specs.Members.{members}
use Rattle.spv_plans.specs.Plans.{plan_of}
use Rattle.spv_frame.specs.Registers.{ids}
use Rattle.spv_plans.proofs.ComesLemmas.{pointer_there, value_there}
use Rattle.spv_plans.proofs.NumberLemmas.{contains_at, number_there}
use Rattle.spv_plans.proofs.laws.results_have_registers.Goals as goal

pub returns-clause-values : goal.returns-clause-values
returns-clause-values c =
    λ a function s among register passes.
    let k = contains_at (members a.insts function) s among in
    let n = value_there a function k.0 s k.1 register passes in
    number_there s.inst.id (ids (plan_of a function).values) n.0 n.1

pub returns-clause-pointers : goal.returns-clause-pointers
returns-clause-pointers c =
    λ a function s among register passes.
    let k = contains_at (members a.insts function) s among in
    let n = pointer_there a function k.0 s k.1 register passes in
    number_there s.inst.id (plan_of a function).pointers n.0 n.1
