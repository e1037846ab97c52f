use Rattle.std.proofs.Common.{rules}
use Rattle.spv_make.specs.Inputs.{setup_for}
use Rattle.spv_make.proofs.texts.setup_for.Goals as goal

pub returns : goal.returns
unfolding setup_for
returns c = search rules
