use Rattle.spv_valid.proofs.AcceptedLemmas.{accepted_passes, passed_accepted}
use Rattle.spv_valid.proofs.acceptance.accepted_modules_pass.Goals as goal

pub returns : goal.returns
returns c = λ a name over. (accepted_passes a name over, passed_accepted a name over)
