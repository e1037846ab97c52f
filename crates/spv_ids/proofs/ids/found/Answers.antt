use Rattle.std.proofs.Common.{◌∙◌, ◌≡◌, ℕ, Option, Some, None, ap, subst, sym}
use Rattle.std.specs.Option.{option_map_or}
use Rattle.std.specs.Prelude.{option_copied, slice_get}
use Rattle.spv_frame.specs.Frames.{Held as Frame}
use Rattle.spv_state.specs.Sound.{IsSoundFrame}
use Rattle.spv_state.specs.State.{frames_of}
use Rattle.spv_valid.specs.Acceptance.{Accepted}
use Rattle.spv_ids.specs.Ids.{frame_value, module_value, value_in}
use Rattle.spv_ids.proofs.FrameLemmas.{frame_sound}
use Rattle.spv_ids.proofs.IdLemmas.{nothing_found, ok_same, value_found}
use Rattle.spv_ids.proofs.ids.found.Goals as goal

pub returns-in_default-clause-value : goal.returns-in_default-clause-value
returns-in_default-clause-value c = nothing_found c.args.m.now c.args.state.now c.args.inv c.args.depth c.args.id c.accepted-accepted.result.now c.accepted-accepted.ensures.module (sym c.in_default.ensures)

pub returns-in_default-depth-clause-value : goal.returns-in_default-depth-clause-value
returns-in_default-depth-clause-value c =
    let a = c.accepted-accepted.result.now in
    let here = value_found c.args.m.now c.args.state.now c.args.inv c.args.depth c.args.id a c.accepted-accepted.ensures.module c.in-Some.meaning (sym c.in-Some.ensures) in
    c.outside.ensures.value ∙ sym (ap (λ (d : Option ℕ). value_in a (frames_of c.args.state.now c.args.inv) d c.args.id c.in-Some.meaning) c.in_default-depth.is) ∙ here

pub inside-requires-clause-frame : goal.inside-requires-clause-frame
inside-requires-clause-frame c =
    let at : slice_get (frames_of c.args.state.now c.args.inv) c.in-Some-depth.depth ≡ Some c.in-Some-frame_at.frame.now = sym c.frame_at.ensures ∙ ap option_copied c.in-Some-frame_at.is in
    subst (λ (a : Accepted). IsSoundFrame a c.in-Some-frame_at.frame.now) (sym c.accepted-accepted.ensures.module)
    (frame_sound c.args.m.now c.args.state.now c.args.inv c.in-Some-depth.depth c.in-Some-frame_at.frame.now c.requires at)

pub returns-in-Some-frame_at-clause-value : goal.returns-in-Some-frame_at-clause-value
returns-in-Some-frame_at-clause-value c =
    let a = c.accepted-accepted.result.now in
    let depth = c.in-Some-depth.depth in
    let at : slice_get (frames_of c.args.state.now c.args.inv) depth ≡ Some c.in-Some-frame_at.frame.now = sym c.frame_at.ensures ∙ ap option_copied c.in-Some-frame_at.is in
    let here = value_found c.args.m.now c.args.state.now c.args.inv c.args.depth c.args.id a c.accepted-accepted.ensures.module c.in-Some.meaning (sym c.in-Some.ensures) in
    ok_same c.inside.result _ _
    (sym (ap (λ (o : Option Frame). option_map_or (λ (f : Frame). frame_value a f depth c.args.id c.in-Some.meaning) o (module_value a c.args.id c.in-Some.meaning)) at)
    ∙ sym (ap (λ (d : Option ℕ). value_in a (frames_of c.args.state.now c.args.inv) d c.args.id c.in-Some.meaning) c.in-Some-depth.is) ∙ here) c.inside.ensures.value

pub returns-in-None-clause-value : goal.returns-in-None-clause-value
returns-in-None-clause-value c =
    let a = c.accepted-accepted.result.now in
    let depth = c.in-Some-depth.depth in
    let at : slice_get (frames_of c.args.state.now c.args.inv) depth ≡ None = sym c.frame_at.ensures ∙ ap option_copied c.in-None.is in
    let here = value_found c.args.m.now c.args.state.now c.args.inv c.args.depth c.args.id a c.accepted-accepted.ensures.module c.in-Some.meaning (sym c.in-Some.ensures) in
    c.outside-in-None.ensures.value
    ∙ sym (ap (λ (o : Option Frame). option_map_or (λ (f : Frame). frame_value a f depth c.args.id c.in-Some.meaning) o (module_value a c.args.id c.in-Some.meaning)) at)
    ∙ sym (ap (λ (d : Option ℕ). value_in a (frames_of c.args.state.now c.args.inv) d c.args.id c.in-Some.meaning) c.in-Some-depth.is) ∙ here
