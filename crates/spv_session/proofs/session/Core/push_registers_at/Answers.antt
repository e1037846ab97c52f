use Rattle.std.proofs.Common.{◌≡◌, ◌∙◌, ℕ, Some, sym, ap, subst, slice_get}
use Rattle.spv_state.specs.Program.{Program}
use Rattle.spv_state.specs.State.{frames_of}
use Rattle.std.specs.Prelude.{option_copied}
use Rattle.spv_session.specs.Frames.{IsShown}
use Rattle.spv_ids.proofs.Exports.{frame_sound}
use Rattle.spv_session.proofs.session.Core.push_registers_at.Goals as goal

pub push_registers-requires : goal.push_registers-requires
push_registers-requires c =
    let p : Program = c.self.inside.group.group.program in
    let i : ℕ = c.self.inside.focus in
    let here : slice_get (frames_of c.world.result.now.state i) c.args.depth ≡ Some c.in-Some.frame.now =
    ap (λ w. slice_get (frames_of w i) c.args.depth) (sym c.whole.ensures) ∙ ap (λ fs. slice_get fs c.args.depth) (sym c.stack.ensures.frames) ∙ sym c.frame.ensures ∙ ap option_copied c.in-Some.is in
    let sound = frame_sound p c.world.result.now.state i c.args.depth c.in-Some.frame.now c.world.ensures.sound here in
    let of = c.top_frames_are_sound.ensures.function p.accepted c.in-Some.frame.now sound in
    subst (λ (q : Program). IsShown q.accepted c.in-Some.frame.now) (sym c.module.ensures) (record { plan = of; shaped = sound.shaped })
