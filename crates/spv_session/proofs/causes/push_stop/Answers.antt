use Rattle.std.proofs.Common.{◌∙◌, ap, drop}
use Rattle.spv_session.proofs.CauseLemmas.{stop_written}
use Rattle.spv_session.proofs.causes.push_stop.Goals as goal

pub returns : goal.returns
returns c =
    stop_written c.args.hit.now.breaks c.args.hit.now.watches c.args.hit.now.halts c.args.done c.args.start c.args.cause c.args.text.now.items _ _ _ _ _ _ _
    c.new-causes.ensures.items c.in_ok-push_hit.ensures c.in_ok-push_place_causes.ensures (c.behind_first.ensures ∙ ap (drop 2) c.deref.ensures.value)
    c.in_ok-extend_from_slice.ensures.items c.in_ok-extend_from_slice-2.ensures.items c.in_ok-extend_from_slice-3.ensures.items
