use Rattle.spv_typing.proofs.LawLemmas.{constants_have_operands}
use Rattle.spv_typing.proofs.laws.constants_have_operands.Goals as goal

pub returns : goal.returns
returns c = constants_have_operands
