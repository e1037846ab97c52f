use Rattle.spv_typing.proofs.LawLemmas.{glsl_rule_is, rule_is}
use Rattle.spv_typing.proofs.laws.fitting_operands_are_typed.Goals as goal

pub returns-clause-fit : goal.returns-clause-fit
returns-clause-fit c = rule_is

pub returns-clause-glsl : goal.returns-clause-glsl
returns-clause-glsl c = glsl_rule_is
