use Rattle.spv_session.proofs.ReplyLemmas.{front_none, refused_with, appended}
use Rattle.spv_session.proofs.session.Core.command.Goals as goal

pub returns-in_err-extend_from_slice-clause-front : goal.returns-in_err-extend_from_slice-clause-front
returns-in_err-extend_from_slice-clause-front g c =
    front_none c.from_residual-in_err-extend_from_slice.result _ _ _ c.in_err-extend_from_slice.ensures.items

pub returns-clause-refused : goal.returns-clause-refused
returns-clause-refused g c = λ code e.
    let refused = refused_with _ c.args.self.now.view c.args.line.now c.in_ok-command.command code c.in_ok-command.ensures e in (
      λ other. c.in_ok-next.ensures.refused code refused.0 other,
      appended _ _ _ _ _ _ _ c.in_ok-extend_from_slice.ensures.items c.deref.ensures.value c.in_ok-next.ensures.text c.new-text.ensures.items refused.1,
    )
