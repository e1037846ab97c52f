use Rattle.spv_sections.proofs.NamedResults.{defined_once, named}
use Rattle.spv_sections.proofs.laws.results_are_defined_once.Goals as goal

pub returns-clause-named : goal.returns-clause-named
returns-clause-named c = named

pub returns-clause-defining : goal.returns-clause-defining
returns-clause-defining c = defined_once
