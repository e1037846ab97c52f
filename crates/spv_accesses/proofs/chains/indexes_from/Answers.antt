use Rattle.std.proofs.Common.{◌≡◌, ◌+◌, ◌<◌, List, length, rules, subst, sym}
use Rattle.spv_base.specs.Cell.{Cell}
use Rattle.spv_accesses.proofs.ChainLemmas.{Reads, one_read}
use Rattle.spv_accesses.proofs.chains.indexes_from.Goals as goal

pub loop-n-preserved : goal.loop-n-preserved
loop-n-preserved c =
    let lt : c.loop-n.n < length c.args.site.now.inst.operands = search rules in
    let cells : c.extend_from_slice.new.self.items ≡ _ = search rules in
    subst (λ (cs : List Cell). Reads c.args.site.now c.args.first cs (c.loop-n.n + 1)) (sym cells)
    (one_read c.args.site.now c.args.first c.loop-n.cells.items c.loop-n.n c.in_ok-index.index lt c.loop-n.invariant c.in_ok-index.ensures.value)
