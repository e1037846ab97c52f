use Rattle.std.proofs.Common.{◌∙◌, drop_of_length-le, length, sym}
use Rattle.spv_types.specs.Layout.{laid_among}
use Rattle.spv_types.proofs.RuleLemmas.{member_broken, member_kept}
use Rattle.spv_types.proofs.LayoutLemmas.{members_laid_at, no_members_laid}
use Rattle.spv_types.proofs.layout.are_members_laid.Goals as goal

pub returns-then-not-is_member_laid : goal.returns-then-not-is_member_laid
returns-then-not-is_member_laid c = sym (c.loop-member.invariant ∙ members_laid_at (laid_among c.args.types.now (length c.args.laid.now)) c.args.members.now c.loop-member.member-index _ c.loop-member-test.true ∙ member_broken _ _ c.if-not-is_member_laid.ensures)

pub loop-member-preserved : goal.loop-member-preserved
loop-member-preserved c = c.loop-member.invariant ∙ members_laid_at (laid_among c.args.types.now (length c.args.laid.now)) c.args.members.now c.loop-member.member-index _ c.loop-member-test.true ∙ member_kept _ _ c.if-not-is_member_laid.ensures

pub returns : goal.returns
returns c = no_members_laid (laid_among c.args.types.now (length c.args.laid.now)) ∙ sym (rw (drop_of_length-le c.args.members.now c.loop-member-test.false) at c.loop-member.invariant)
