use Rattle.spv_group.proofs.PositionsLemmas.{least_is, greatest_is}
use Rattle.spv_group.proofs.positions.positions_are_found.Goals as goal

pub returns-clause-least : goal.returns-clause-least
returns-clause-least c test low high h = least_is test low high h

pub returns-clause-greatest : goal.returns-clause-greatest
returns-clause-greatest c test low high = greatest_is test low high
