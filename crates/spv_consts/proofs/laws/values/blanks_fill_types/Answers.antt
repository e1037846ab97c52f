use Rattle.spv_consts.proofs.ValueFills.{blanks_fill}
use Rattle.spv_consts.proofs.laws.values.blanks_fill_types.Goals as goal

pub returns : goal.returns
returns c = blanks_fill
