use Rattle.spv_state.proofs.StartLemmas.{all_start, some_start}
use Rattle.spv_state.proofs.laws.runs_start_with_all.Goals as goal

pub returns-clause-all : goal.returns-clause-all
returns-clause-all c p = all_start p

pub returns-clause-some : goal.returns-clause-some
returns-clause-some c a valid = some_start a valid
