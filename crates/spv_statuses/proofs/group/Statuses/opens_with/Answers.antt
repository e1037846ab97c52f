use Rattle.std.proofs.Common.{◌≡◌, ◌∙◌, Some, ap, cond, length, not, rules, slice_get, slice_set}
use Rattle.spv_statuses.specs.Group.{Held, opens_at}
use Rattle.spv_statuses.specs.Invocations.{is_finished, waits_at}
use Rattle.spv_statuses.specs.declared.invocations.Status.TheVariants.{Arrived}
use Rattle.spv_statuses.proofs.BarrierLemmas.{arriving}
use Rattle.spv_statuses.proofs.group.Statuses.opens_with.Goals as goal

pub overflow_sub-finished : goal.overflow_sub-finished
overflow_sub-finished c =
    let list = c.self.inside.list.items in
    let here : slice_get list c.args.inv ≡ Some c.get-old.result = ap (λ (s : Held). slice_get s.list c.args.inv) c.self.view_is ∙ c.get-old.ensures in
    let more : c.from.result ≡ cond (not (waits_at c.args.word c.get-old.result)) 1 0 = search rules in
    let fewer : c.from-2.result ≡ cond (is_finished c.get-old.result) 1 0 = search rules in
    let a = arriving c.args.word list c.args.inv c.get-old.result c.at.result c.from.result c.self.inside.finished c.from-2.result (length list) here (c.at.ensures ∙ c.self.invariant.2 c.args.word) more c.self.invariant.1 fewer (search rules) in
    a.enough

pub opens-requires : goal.opens-requires
opens-requires c =
    let list = c.self.inside.list.items in
    let here : slice_get list c.args.inv ≡ Some c.get-old.result = ap (λ (s : Held). slice_get s.list c.args.inv) c.self.view_is ∙ c.get-old.ensures in
    let more : c.from.result ≡ cond (not (waits_at c.args.word c.get-old.result)) 1 0 = search rules in
    let fewer : c.from-2.result ≡ cond (is_finished c.get-old.result) 1 0 = search rules in
    let a = arriving c.args.word list c.args.inv c.get-old.result c.at.result c.from.result c.self.inside.finished c.from-2.result c.len.result here (c.at.ensures ∙ c.self.invariant.2 c.args.word) more c.self.invariant.1 fewer (search rules) in
    a.apart

pub returns : goal.returns
returns c =
    let list = c.self.inside.list.items in
    let here : slice_get list c.args.inv ≡ Some c.get-old.result = ap (λ (s : Held). slice_get s.list c.args.inv) c.self.view_is ∙ c.get-old.ensures in
    let more : c.from.result ≡ cond (not (waits_at c.args.word c.get-old.result)) 1 0 = search rules in
    let fewer : c.from-2.result ≡ cond (is_finished c.get-old.result) 1 0 = search rules in
    let a = arriving c.args.word list c.args.inv c.get-old.result c.at.result c.from.result c.self.inside.finished c.from-2.result c.len.result here (c.at.ensures ∙ c.self.invariant.2 c.args.word) more c.self.invariant.1 fewer (search rules) in
    c.opens.ensures ∙ a.opens c.args.finished_count ∙ ap (λ (s : Held). opens_at c.args.finished_count c.args.word (slice_set s.list c.args.inv (Arrived c.args.word))) c.self.view_is
