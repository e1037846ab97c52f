use Rattle.std.proofs.Common.{◌≡◌, ◌∙◌, ◌<◌, false, get_or, length, subst, sym, arith}
use Rattle.std.specs.List.{All}
use Rattle.std.proofs.lemmas.List.{take_all}
use Rattle.std.proofs.lemmas.List.Elements.{All-more}
use Rattle.spv_base.specs.declared.values.PassedEvent.{PassedEvent}
use Rattle.spv_expr.specs.Groups.{is_event_of}
use Rattle.spv_hits.proofs.same.none_is_of.Goals as goal

pub loop-event-preserved : goal.loop-event-preserved
loop-event-preserved c =
    let t = c.args.tables.now in
    let v = c.args.variable in
    let events = c.args.events.now in
    let n = c.loop-event.event-index in
    let x = c.event-item.result in
    let within : n < length events = omega arith in
    let word : c.word.result ≡ (get_or events n x).word = cc (c.word.ensures, c.event-item.is) in
    All-more (λ (e : PassedEvent). is_event_of t v e.word ≡ false) events n x within c.loop-event.invariant (subst (λ w. is_event_of t v w ≡ false) word (sym c.is_of_variable.ensures ∙ c.if-is_of_variable.false))

pub returns : goal.returns
returns c = λ e. subst (All (λ (x : PassedEvent). is_event_of c.args.tables.now c.args.variable x.word ≡ false)) (take_all c.loop-event.event-index c.args.events.now (omega arith)) c.loop-event.invariant
