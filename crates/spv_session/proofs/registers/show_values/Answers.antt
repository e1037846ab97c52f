use Rattle.std.proofs.Common.{◌∙◌, ◌<◌, ℕ, List, length, ap, arith, slice_get}
use Rattle.spv_session.specs.Texts.{shown_value, with_any}
use Rattle.spv_session.proofs.RegisterLemmas.{with_next}
use Rattle.spv_session.proofs.registers.show_values.Goals as goal

pub loop-number-preserved : goal.loop-number-preserved
loop-number-preserved c =
    let many = c.value_count-number-end.ensures in
    let test = c.loop-number-test.true in
    let within : c.loop-number.number < length c.args.frame.now.values = omega arith in
    c.in_ok-show_value_at.ensures
    ∙ ap (λ (ts : List (ℕ × List ℕ)). with_any ts (shown_value c.args.m.now.accepted) (slice_get c.args.frame.now.values c.loop-number.number)) c.loop-number.invariant
    ∙ with_next (shown_value c.args.m.now.accepted) c.args.frame.now.values c.loop-number.number c.args.shown.now.entries within
