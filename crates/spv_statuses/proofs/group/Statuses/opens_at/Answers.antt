use Rattle.std.proofs.Common.{◌≡◌, ◌∙◌, arith, length, rules}
use Rattle.spv_statuses.proofs.BarrierLemmas.{counts_apart}
use Rattle.spv_statuses.proofs.group.Statuses.opens_at.Goals as goal

pub opens-requires : goal.opens-requires
opens-requires c =
    let len : c.len.result ≡ length c.self.inside.list.items = search rules in
    omega (arith, c.at.ensures ∙ c.self.invariant.2 c.args.word, c.self.invariant.1, len, counts_apart c.args.word c.self.inside.list.items)
