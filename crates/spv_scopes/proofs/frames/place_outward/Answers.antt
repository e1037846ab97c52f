use Rattle.std.proofs.Common.{◌∙◌, sym, arith}
use Rattle.std.specs.Prelude.{reverse}
use Rattle.spv_scopes.specs.Calls.{calls_from}
use Rattle.spv_scopes.proofs.CallLemmas.{outward_is, outward_more, outward_none}
use Rattle.spv_scopes.proofs.frames.place_outward.Goals as goal

pub returns-in_err-number : goal.returns-in_err-number
returns-in_err-number c =
    let calls = reverse c.args.calls.now in
    c.from_residual.ensures ∙ sym (outward_none calls (calls_from calls c.args.first) c.loop-step.number c.loop-step._step c.loop-step.invariant c.args.outer c.in_err-number.ensures.calls (omega arith))

pub loop-step-preserved : goal.loop-step-preserved
loop-step-preserved c =
    let calls = reverse c.args.calls.now in
    outward_more calls (calls_from calls c.args.first) c.loop-step.number c.loop-step._step c.loop-step.invariant c.in_ok-number.field-0 c.in_ok-number.ensures.calls

pub returns-in_err-call_with : goal.returns-in_err-call_with
returns-in_err-call_with c =
    let calls = reverse c.args.calls.now in
    c.from_residual-in_err-call_with.ensures
    ∙ sym (outward_none calls (calls_from calls c.args.first) c.loop-step.number c.loop-step._step c.loop-step.invariant c.args.outer c.in_err-call_with.ensures.calls (omega arith))

pub returns : goal.returns
returns c =
    let calls = reverse c.args.calls.now in
    outward_is calls (calls_from calls c.args.first) c.loop-step.number c.loop-step._step c.loop-step.invariant c.args.outer c.in_ok-call_with.field-0 c.in_ok-call_with.ensures.calls (omega arith)
