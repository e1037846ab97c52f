use Rattle.std.proofs.Common.{◌≡◌, ◌∙◌, ◌+◌, List, ℕ, ap}
use Rattle.spv_scopes.specs.Calls.{count_in}
use Rattle.spv_scopes.proofs.CountLemmas.{count_alone, count_inside}
use Rattle.spv_scopes.proofs.SpotLemmas.{spot_kept}
use Rattle.spv_scopes.proofs.spot_table.SpotTable.count.Goals as goal

pub returns-then-linked-eq0 : goal.returns-then-linked-eq0
returns-then-linked-eq0 c =
    let x = c.self.inside in
    let k = c.kept_at-linked.result in
    count_alone c.args.self.now c.args.word x.calls.items k (spot_kept x.calls.items x.spots c.args.self.now c.args.word k c.self.view_is c.kept_at-linked.ensures) c.if-linked-eq0.true

pub returns : goal.returns
returns c =
    let x = c.self.inside in
    let k = c.kept_at-linked.result in
    let counted = c.count_in.ensures ∙ ap (λ (l : List ℕ). count_in l k.call) c.as_slice.ensures.value ∙ c.self.invariant k.call in
    let same : c.from.result ≡ c.count_in.result = c.from.ensures in
    ap (λ n. n + 1) same
    ∙ count_inside c.args.self.now c.args.word x.calls.items k (spot_kept x.calls.items x.spots c.args.self.now c.args.word k c.self.view_is c.kept_at-linked.ensures) c.count_in.result c.if-linked-eq0.false counted
