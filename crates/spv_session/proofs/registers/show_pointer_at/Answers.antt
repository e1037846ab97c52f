use Rattle.std.proofs.Common.{◌≡◌, ◌∙◌, ℕ, Option, Some, ap, subst, sym}
use Rattle.std.specs.Prelude.{option_copied}
use Rattle.spv_base.specs.declared.values.Pointer.{Pointer}
use Rattle.spv_frame.specs.Registers.{Planned, number_of}
use Rattle.spv_valid.specs.Acceptance.{Accepted, IsAccepted}
use Rattle.spv_session.proofs.RegisterLemmas.{pointer_shape}
use Rattle.spv_session.proofs.registers.show_pointer_at.Goals as goal

pub show_pointer-requires : goal.show_pointer-requires
show_pointer-requires c =
    let a : Accepted = c.args.m.now.accepted in
    let frame = c.requires.frame in
    let id : ℕ = c.pointer_at-id.result.0 in
    let accepted : ∥ IsAccepted a ∥₁ = subst (λ (x : Accepted). ∥ IsAccepted x ∥₁) c.accepted.ensures.module c.insts-insts.ensures.accepted in
    let named = ap (λ (p : Planned). number_of id p.pointers) (sym frame.plan.is) ∙ c.pointer_at-id.ensures.id in
    let typed = c.registers_have_types.ensures.pointers a c.args.frame.now.plan.function id c.args.number accepted frame.plan.function named in
    let held : option_copied c.pointer_at-id.result.1 ≡ Some c.in-Some.pointer.now = ap option_copied c.in-Some.is in
    pointer_shape a c.args.frame.now id c.in-Some.pointer.now frame typed (c.pointer_at-id.ensures.read ∙ ap (λ (o : Option Pointer). Some o) held)
