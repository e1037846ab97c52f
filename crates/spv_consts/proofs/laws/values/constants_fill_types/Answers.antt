use Rattle.spv_consts.proofs.ValueFills.{constants_fill}
use Rattle.spv_consts.proofs.laws.values.constants_fill_types.Goals as goal

pub returns : goal.returns
returns c = constants_fill
