use Rattle.std.proofs.Common.{◌∙◌}
use Rattle.spv_sites.proofs.OperandLemmas.{datum_is, datum_there}
use Rattle.spv_sites.proofs.sites.Datum.part.Goals as goal

pub unreachable-requires : goal.unreachable-requires
unreachable-requires c = datum_there c.self.inside.operand c.self.invariant c.part.result c.part.ensures c.in-None.is

pub returns : goal.returns
returns c = datum_is c.self.inside.operand c.self.invariant c.part.result c.part.ensures c.in-Some.part c.in-Some.is ∙ c.self.view_is
