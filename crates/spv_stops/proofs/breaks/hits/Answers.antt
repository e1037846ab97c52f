use Rattle.std.proofs.Common.{◌≡◌, ◌<◌, ◌==◌, length, sym, ap, ◌∙◌, arith}
use Rattle.std.specs.List.{list_any}
use Rattle.spv_stops.specs.Breaks.{has_head}
use Rattle.spv_stops.proofs.HitLemmas.{hits_yes, hits_no}
use Rattle.spv_stops.proofs.breaks.hits.Goals.{then-contains+in_ok-push, else-contains}
use Rattle.spv_stops.proofs.breaks.hits.Goals as goal

pub loop-stop-preserved : goal.loop-stop-preserved
loop-stop-preserved c =
    let pc = c.args.pc in
    let i = c.loop-stop.stop-index in
    let breaks = c.args.breaks.now in
    let stop = c.stop-item.result in
    let within : i < length breaks = omega arith in
    let head : c.contains.result ≡ has_head pc stop = c.contains.ensures.value ∙ ap (list_any (λ h. h == pc)) c.as_slice.ensures in
    elim c.if-contains.branch [
      | then-contains+in_ok-push w ↦ hits_yes pc i breaks stop c.loop-stop.numbers c.if-contains.numbers within c.stop-item.is (sym head ∙ w.if-contains.true) c.loop-stop.invariant (w.numbers-is ∙ w.in_ok-push.ensures.ok)
      | else-contains w ↦ w.numbers-is ∙ hits_no pc i breaks stop c.loop-stop.numbers within c.stop-item.is (sym head ∙ w.if-contains.false) c.loop-stop.invariant
    ]
