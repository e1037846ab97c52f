use Rattle.std.proofs.Common.{arith}
use Rattle.spv_session.specs.Reply.{reply}
use Rattle.spv_loop.specs.Lines.{last_line}
use Rattle.spv_loop.specs.Transcript.{replies}
use Rattle.spv_loop.proofs.Offerings.{stops, last_all, last_first}
use Rattle.spv_loop.proofs.command_loop.answer_last.Goals as goal

pub returns-in_err-answer-clause-offers : goal.returns-in_err-answer-clause-offers
returns-in_err-answer-clause-offers g c =
    let v = (g.S.Debugger.viewing c.args.session.now).view in
    stops c.from_residual.result _ (replies (reply g.settings) v (last_line c.args.line.now)) (g.K.Sink.offers c.args.out.now) (g.K.Sink.offers c.answer.new.out) c.from_residual.ensures.1
    (last_first (reply g.settings) v c.args.line.now (g.K.Sink.offers c.args.out.now) (g.K.Sink.offers c.answer.new.out) (grind arith) c.in_err-answer.ensures.offers)

pub returns-clause-offers : goal.returns-clause-offers
returns-clause-offers g c =
    last_all (reply g.settings) (g.S.Debugger.viewing c.args.session.now).view c.args.line.now (g.K.Sink.offers c.args.out.now) (g.K.Sink.offers c.answer.new.out) (grind arith) c.in_ok-answer.ensures.offers
