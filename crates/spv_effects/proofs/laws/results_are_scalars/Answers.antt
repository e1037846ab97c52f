use Rattle.spv_effects.proofs.ResultLemmas.{binary_scalars, bitcast_scalars, field_scalars, glsl_scalars, high_scalars, low_scalars, truth_scalars, unary_scalars}
use Rattle.spv_effects.proofs.laws.results_are_scalars.Goals as goal

pub returns-clause-unary : goal.returns-clause-unary
returns-clause-unary c = unary_scalars

pub returns-clause-binary : goal.returns-clause-binary
returns-clause-binary c = binary_scalars

pub returns-clause-field : goal.returns-clause-field
returns-clause-field c = field_scalars

pub returns-clause-low : goal.returns-clause-low
returns-clause-low c = low_scalars

pub returns-clause-high : goal.returns-clause-high
returns-clause-high c = high_scalars

pub returns-clause-glsl : goal.returns-clause-glsl
returns-clause-glsl c = glsl_scalars

pub returns-clause-bitcast : goal.returns-clause-bitcast
returns-clause-bitcast c = bitcast_scalars

pub returns-clause-truth : goal.returns-clause-truth
returns-clause-truth c = truth_scalars
