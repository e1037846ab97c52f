use Rattle.std.proofs.Common.{◌∙◌, ap, sym}
use Rattle.std.specs.Option.{option_map}
use Rattle.spv_operands.specs.Operands.{shown}
use Rattle.spv_sites.proofs.OperandLemmas.{operand_shape}
use Rattle.spv_sites.proofs.sites.Site.operand.Goals as goal

pub returns-in-Some-clause-shape : goal.returns-in-Some-clause-shape
returns-in-Some-clause-shape c =
    operand_shape c.operands_have_shapes.ensures.values c.operands_have_shapes.ensures.pointers c.args.self.now c.args.n (shown c.in-Some.operand) c.accepted.result.now c.accepted.ensures
    c.insts-insts.ensures.accepted c.is_reached.ensures (sym c.in_ok-operand.ensures.value ∙ ap (option_map shown) c.in-Some.is)
