use Rattle.std.proofs.Common.{◌∙◌, ℕ, Option, Some, ap, subst, sym}
use Rattle.spv_base.specs.declared.values.Value.{Value}
use Rattle.spv_frame.specs.Registers.{Planned, ids, number_of}
use Rattle.spv_valid.specs.Acceptance.{Accepted, IsAccepted}
use Rattle.spv_session.proofs.RegisterLemmas.{value_row}
use Rattle.spv_session.proofs.registers.show_value_at.Goals as goal

pub show_value-requires : goal.show_value-requires
show_value-requires c =
    let a : Accepted = c.args.m.now.accepted in
    let frame = c.requires.frame in
    let id : ℕ = c.value_at-id.result.0 in
    let accepted : ∥ IsAccepted a ∥₁ = subst (λ (x : Accepted). ∥ IsAccepted x ∥₁) c.accepted.ensures.module c.insts-insts.ensures.accepted in
    let named = ap (λ (p : Planned). number_of id (ids p.values)) (sym frame.plan.is) ∙ c.value_at-id.ensures.id in
    let typed = c.registers_have_types.ensures.values a c.args.frame.now.plan.function id c.args.number accepted frame.plan.function named in
    value_row a c.args.frame.now id c.args.number c.in-Some.part frame typed (c.value_at-id.ensures.read ∙ ap (λ (o : Option Value). Some o) c.in-Some.is)
