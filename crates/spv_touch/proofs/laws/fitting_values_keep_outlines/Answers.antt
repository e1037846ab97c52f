use Rattle.spv_touch.proofs.FitLemmas.{kept}
use Rattle.spv_touch.proofs.laws.fitting_values_keep_outlines.Goals as goal

pub returns : goal.returns
returns c = kept
