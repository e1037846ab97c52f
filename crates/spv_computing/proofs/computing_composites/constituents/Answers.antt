use Rattle.std.proofs.Common.{◌≡◌, ◌+◌, ◌<◌, List, arith, length, rules, subst, sym}
use Rattle.spv_base.specs.declared.values.Value.{Value}
use Rattle.spv_computing.proofs.ConstituentLemmas.{Gathers, one_gathered}
use Rattle.spv_computing.proofs.computing_composites.constituents.Goals as goal

pub loop-n-preserved : goal.loop-n-preserved
loop-n-preserved c =
    let many : c.len-count.result ≡ length c.args.site.now.inst.operands = search rules in
    let lt : c.loop-n.n < length c.args.site.now.inst.operands = omega arith in
    subst (λ (vs : List Value). Gathers c.args.site.now vs (c.loop-n.n + 1)) (sym c.in_ok-push.ensures.items)
    (one_gathered c.args.site.now c.loop-n.values.items c.loop-n.n c.in_ok-value.field-0 lt c.loop-n.invariant c.in_ok-value.ensures.value c.in_ok-value.ensures.shape)
