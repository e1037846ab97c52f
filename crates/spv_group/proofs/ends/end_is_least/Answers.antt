use Rattle.spv_group.proofs.Runs.{end_is, cause_at_end}
use Rattle.spv_group.proofs.ends.end_is_least.Goals as goal

pub returns-clause-least : goal.returns-clause-least
returns-clause-least c p entries = end_is p entries

pub returns-clause-cause : goal.returns-clause-cause
returns-clause-cause c p entries = cause_at_end p entries
