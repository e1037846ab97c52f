use Rattle.std.proofs.Common.{◌∙◌, ap, subst, sym}
use Rattle.std.specs.Option.{option_map}
use Rattle.spv_valid.specs.Acceptance.{Accepted, IsAccepted}
use Rattle.spv_valid.specs.Validity.{IsValid}
use Rattle.spv_operands.specs.Operands.{shown}
use Rattle.spv_sites.proofs.ValueLemmas.{id_typed}
use Rattle.spv_sites.proofs.sites.Site.operand_with.Goals as goal

pub returns-in-Some-clause-shape : goal.returns-in-Some-clause-shape
returns-in-Some-clause-shape c =
    let accepts = subst (λ (a : Accepted). ∥ IsAccepted a ∥₁) c.accepted.ensures c.insts-insts.ensures.accepted in
    let valid = subst (λ (a : Accepted). ∥ IsValid a ∥₁) c.accepted.ensures c.insts-insts.ensures.valid in
    id_typed c.operands_have_shapes.ensures.values c.operands_have_shapes.ensures.pointers c.args.self.now accepts valid c.is_reached.ensures c.args.id (shown c.in-Some.operand)
    (sym c.in_ok-operand.ensures.value ∙ ap (option_map shown) c.in-Some.is)
