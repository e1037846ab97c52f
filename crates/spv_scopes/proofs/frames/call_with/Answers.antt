use Rattle.std.proofs.Common.{◌∙◌, ◌∷◌, sym, ap, arith}
use Rattle.std.specs.Prelude.{reverse}
use Rattle.spv_scopes.specs.Calls.{calls_behind, calls_from}
use Rattle.spv_scopes.proofs.CallLemmas.{no_call_at, none_of_none, unrolled}
use Rattle.spv_scopes.proofs.frames.call_with.Goals as goal

pub returns-in_err-n-clause-calls : goal.returns-in_err-n-clause-calls
returns-in_err-n-clause-calls c =
    let calls = reverse c.args.calls.now in
    ap (calls_from calls) c.in_err-n.was ∙ none_of_none calls ∙ sym (ap (calls_behind calls) c.from_residual.ensures)

pub returns-in_err-linked-clause-calls : goal.returns-in_err-linked-clause-calls
returns-in_err-linked-clause-calls c =
    let calls = reverse c.args.calls.now in
    ap (calls_from calls) c.in_ok-n.was
    ∙ no_call_at c.args.calls.now c.in_ok-n.n (omega (arith, c.in_err-linked.ensures.lookup))
    ∙ sym (ap (calls_behind calls) c.from_residual-in_err-linked.ensures)

pub returns-clause-calls : goal.returns-clause-calls
returns-clause-calls c =
    let calls = reverse c.args.calls.now in
    let linked = c.in_ok-linked.field-0.now in
    ap (calls_from calls) c.in_ok-n.was
    ∙ unrolled c.args.calls.now c.in_ok-n.n linked (omega (arith, c.in_ok-linked.ensures.lookup)) c.in_ok-linked.ensures.lookup.1
    ∙ sym (ap (λ call. linked.place ∷ calls_from calls call) c.before-2.ensures)
