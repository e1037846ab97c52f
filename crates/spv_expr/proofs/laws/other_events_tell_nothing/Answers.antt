use Rattle.spv_expr.proofs.GroupLemmas.{variable_others}
use Rattle.spv_expr.proofs.laws.other_events_tell_nothing.Goals as goal

pub returns : goal.returns
returns c = λ m inv t s u f id more longer others j. variable_others m inv t s u f id more longer others j
