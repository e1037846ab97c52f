use Rattle.std.proofs.Common.{◌≡◌, ◌∙◌, sym, arith}
use Rattle.spv_types.proofs.TypingLemmas.{members_none, members_next, members_broken, members_done}
use Rattle.spv_types.proofs.typing.members.Goals as goal

pub loop-n-init : goal.loop-n-init
loop-n-init c = rw c.new-members.ensures (members_none c.args.index.now.insts c.args.id c.args.operands.now)

pub returns-in_default : goal.returns-in_default
returns-in_default c =
    members_broken c.args.index.now.insts c.args.id c.args.operands.now c.loop-n.n c.index-operands-n.result c.loop-n.members c.loop-n-test.true c.index-operands-n.is (sym c.id_in.ensures ∙ c.in_default.is) c.loop-n.invariant

pub loop-n-preserved : goal.loop-n-preserved
loop-n-preserved c =
    let same : c.in-Ok.member ≡ c.loop-n.n = omega (arith, c.in-Ok.ensures) in
    rw (c.in_ok-push.ensures.ok, c.member_decoration-offset.ensures, same)
    (members_next c.args.index.now.insts c.args.id c.args.operands.now c.loop-n.n c.in-Some.ty c.index-operands-n.result c.loop-n.members c.loop-n-test.true c.index-operands-n.is (sym c.id_in.ensures ∙ c.in-Some.is) c.loop-n.invariant)

pub returns : goal.returns
returns c = members_done c.args.index.now.insts c.args.id c.args.operands.now c.loop-n.n c.loop-n.members c.loop-n-test.false c.loop-n.invariant
