use Rattle.std.proofs.Common.{◌∙◌, ap}
use Rattle.std.specs.Option.{is_some}
use Rattle.spv_base.specs.declared.values.Value.{Value}
use Rattle.spv_operands.specs.Operands.{pointer_of}
use Rattle.spv_operands.proofs.ShapeLemmas.{blank_plain}
use Rattle.spv_operands.proofs.reading.undefined.Goals as goal

pub returns-clause-plain : goal.returns-clause-plain
returns-clause-plain c = ap (λ (v : Value). is_some (pointer_of v)) (c.in_ok-new.ensures.ok ∙ c.in_ok-variable.ensures) ∙ blank_plain c.types.result.now 0 c.args.ty
