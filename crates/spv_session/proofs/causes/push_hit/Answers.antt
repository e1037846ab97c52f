use Rattle.spv_session.proofs.CauseLemmas.{three_behind}
use Rattle.spv_session.proofs.SightLemmas.{on_ok}
use Rattle.spv_session.proofs.causes.push_hit.Goals as goal

pub returns : goal.returns
returns c = on_ok c.push_numbered-3.result _ _ (λ h.
    three_behind c.args.hit.now.breaks c.args.hit.now.watches c.args.hit.now.halts c.args.text.now.items c.push_numbered.new.text.items c.push_numbered-2.new.text.items c.push_numbered-3.new.text.items _ _ _
    c.as_slice.ensures c.as_slice-2.ensures c.as_slice-3.ensures c.in_ok-push_numbered.ensures c.in_ok-push_numbered-2.ensures h) c.push_numbered-3.ensures
