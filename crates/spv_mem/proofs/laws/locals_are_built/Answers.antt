use Rattle.spv_mem.proofs.ChangeLemmas.{more_are_variables, none_are_variables}
use Rattle.spv_mem.proofs.laws.locals_are_built.Goals as goal

pub returns-clause-none : goal.returns-clause-none
returns-clause-none c = none_are_variables

pub returns-clause-more : goal.returns-clause-more
returns-clause-more c = more_are_variables
