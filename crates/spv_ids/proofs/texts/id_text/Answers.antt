use Rattle.std.proofs.Common.{◌∙◌, ap, subst, sym}
use Rattle.std.specs.Option.{option_map}
use Rattle.spv_operands.specs.Operands.{shown}
use Rattle.spv_valid.specs.Acceptance.{Accepted, IsAccepted}
use Rattle.spv_valid.specs.Validity.{IsValid}
use Rattle.spv_ids.proofs.TypedLemmas.{id_typed}
use Rattle.spv_ids.proofs.texts.id_text.Goals as goal

pub push_value-requires-clause-typed : goal.push_value-requires-clause-typed
push_value-requires-clause-typed c =
    let valid = subst (λ (a : Accepted). ∥ IsValid a ∥₁) c.accepted.ensures.module c.insts-insts.ensures.valid in
    let accepted = subst (λ (a : Accepted). ∥ IsAccepted a ∥₁) c.accepted.ensures.module c.insts-insts.ensures.accepted in
    id_typed c.args.m.now c.args.state.now valid accepted c.variables_are_declared.ensures (record { values = c.registers_have_types.ensures.values; pointers = c.registers_have_types.ensures.pointers }) c.requires
    c.top_frames_are_sound.ensures.function c.args.inv c.args.depth c.args.id (shown c.in-Some.operand)
    (sym c.in_ok-operand.ensures.value ∙ ap (option_map shown) c.in-Some.is)
