use Rattle.std.proofs.Common.{◌≡◌, length, arith, subst}
use Rattle.spv_expr.specs.Groups.{AreGroups, under}
use Rattle.spv_expr.proofs.GroupLemmas.{group_more}
use Rattle.spv_expr.proofs.groups.grouped.Goals as goal

pub loop-n-preserved : goal.loop-n-preserved
loop-n-preserved c = λ variable. group_more c.args.tables.now c.args.events.now c.loop-n.n variable (under c.loop-n.groups variable) (under c.add_event.new.groups variable) c.loop-n-test.true
    (c.in_ok-add_event.ensures variable) (c.loop-n.invariant variable)

pub returns : goal.returns
returns c =
    let end : c.loop-n.n ≡ length c.args.events.now = omega (arith, c.loop-n.auto.n-end, c.loop-n-test.false) in
    subst (λ n. AreGroups c.args.tables.now c.args.events.now n c.loop-n.groups) end c.loop-n.invariant
