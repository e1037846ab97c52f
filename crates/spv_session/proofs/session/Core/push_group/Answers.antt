use Rattle.std.proofs.Common.{◌∙◌}
use Rattle.spv_session.specs.Reply.{invocation_reply}
use Rattle.spv_session.proofs.ReplyLemmas.{text_more}
use Rattle.spv_session.proofs.session.Core.push_group.Goals as goal

pub loop-inv-preserved : goal.loop-inv-preserved
loop-inv-preserved c =
    c.in_ok-push_invocation.ensures ∙ text_more (invocation_reply c.args.self.now.view.group) c.args.text.now.items c.loop-inv.text.items c.loop-inv.inv c.loop-inv.invariant
