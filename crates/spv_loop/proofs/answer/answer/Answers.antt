use Rattle.std.proofs.Common.{◌≡◌, ◌++◌, ◌∙◌, ap, false}
use Rattle.spv_session.specs.Reply.{reply, is_quit}
use Rattle.spv_session.proofs.Exports.{line_rises}
use Rattle.spv_session.specs.Costs.{line_cost}
use Rattle.spv_loop.specs.Transcript.{text_of}
use Rattle.spv_loop.proofs.Offerings.{offers_none, offers_some, offers_whole}
use Rattle.spv_loop.proofs.Pieces.{goes}
use Rattle.spv_loop.proofs.Spending.{reaches_one, spends_one}
use Rattle.spv_loop.proofs.answer.answer.Goals as goal

pub returns-in_err-next-clause-cost : goal.returns-in_err-next-clause-cost
returns-in_err-next-clause-cost g c = spends_one (reply g.settings) (line_cost g.settings) (line_rises g.settings) (g.S.Debugger.viewing c.args.session.now) c.args.line.now c.args.steps.now c.command.new.steps (c.command.ensures.cost g.settings c.requires.1.1.1.1)

pub returns-in_err-write_all-clause-cost : goal.returns-in_err-write_all-clause-cost
returns-in_err-write_all-clause-cost g c = spends_one (reply g.settings) (line_cost g.settings) (line_rises g.settings) (g.S.Debugger.viewing c.args.session.now) c.args.line.now c.args.steps.now c.command.new.steps (c.command.ensures.cost g.settings c.requires.1.1.1.1)

pub returns-clause-reach : goal.returns-clause-reach
returns-clause-reach g c e =
    let go : is_quit c.args.line.now ≡ false = goes (is_quit c.args.line.now) c.in_ok-next.next (cc) c.in_ok-next.ensures.next in
    reaches_one (reply g.settings) (g.S.Debugger.viewing c.args.session.now) (g.S.Debugger.viewing c.command.new.self) c.args.line.now (c.in_ok-next.ensures.view g.settings c.requires.1.1.1.1) c.command.ensures.group c.command.ensures.limit c.command.ensures.kept go

pub returns-clause-cost : goal.returns-clause-cost
returns-clause-cost g c = spends_one (reply g.settings) (line_cost g.settings) (line_rises g.settings) (g.S.Debugger.viewing c.args.session.now) c.args.line.now c.args.steps.now c.command.new.steps (c.command.ensures.cost g.settings c.requires.1.1.1.1)

pub returns-in_err-next-clause-offers : goal.returns-in_err-next-clause-offers
returns-in_err-next-clause-offers g c = offers_none (text_of (reply g.settings) (g.S.Debugger.viewing c.args.session.now).view c.args.line.now) _ c.from_residual.result _ c.from_residual.ensures.1

pub returns-in_err-write_all-clause-offers : goal.returns-in_err-write_all-clause-offers
returns-in_err-write_all-clause-offers g c =
    let due = text_of (reply g.settings) (g.S.Debugger.viewing c.args.session.now).view c.args.line.now in
    offers_some _ due _ _ c.from_residual-in_err-write_all.result _ (c.deref.ensures.value ∙ (c.in_ok-next.ensures.text g.settings c.requires.1.1.1.1) ∙ ap (λ l. l ++ due) c.new-text.ensures.items) c.from_residual-in_err-write_all.ensures.1 c.in_err-write_all.ensures.offers

pub returns-clause-offers : goal.returns-clause-offers
returns-clause-offers g c =
    let due = text_of (reply g.settings) (g.S.Debugger.viewing c.args.session.now).view c.args.line.now in
    offers_whole _ due _ _ (c.deref.ensures.value ∙ (c.in_ok-next.ensures.text g.settings c.requires.1.1.1.1) ∙ ap (λ l. l ++ due) c.new-text.ensures.items) c.in_ok-write_all.ensures.offers
