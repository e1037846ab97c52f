use Rattle.spv_computing.proofs.ActionLemmas.{stops_act}
use Rattle.spv_computing.proofs.laws.executables_are_actions.Goals as goal

pub returns : goal.returns
returns c a accepts = stops_act a accepts (c.accepted_modules_are_valid.ensures a accepts)
