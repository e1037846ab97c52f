use Rattle.std.proofs.Common.{◌∙◌, sym}
use Rattle.std.proofs.Common.{drop_of_length-le}
use Rattle.spv_types.proofs.RuleLemmas.{member_broken, member_kept, members_at, no_members}
use Rattle.spv_types.proofs.rules.keep_members.Goals as goal

pub returns-then-not-keeps_member : goal.returns-then-not-keeps_member
returns-then-not-keeps_member c =
    sym (c.loop-n.invariant ∙ members_at c.args.types.now c.args.block c.args.members.now c.loop-n.n _ c.loop-n-test.true ∙ member_broken _ _ c.if-not-keeps_member.ensures)

pub loop-n-preserved : goal.loop-n-preserved
loop-n-preserved c =
    c.loop-n.invariant ∙ members_at c.args.types.now c.args.block c.args.members.now c.loop-n.n _ c.loop-n-test.true ∙ member_kept _ _ c.if-not-keeps_member.ensures

pub returns : goal.returns
returns c = no_members c.args.types.now c.args.block ∙ sym (rw (drop_of_length-le c.args.members.now c.loop-n-test.false) at c.loop-n.invariant)
