use Rattle.std.proofs.Common.{List, ℕ, [], ◌∷◌, subst, sym}
use Rattle.spv_session.specs.Reply.{reply}
use Rattle.spv_loop.specs.Lines.{ended_by}
use Rattle.spv_loop.specs.Offers.{OffersAll, OffersFirst}
use Rattle.spv_loop.specs.Transcript.{replies}
use Rattle.spv_loop.proofs.Offerings.{stops, one_all, one_first, first_none}
use Rattle.spv_loop.proofs.answer.answer_byte.Goals as goal

pub returns-in_err-next-clause-offers : goal.returns-in_err-next-clause-offers
returns-in_err-next-clause-offers g c =
    let v = (g.S.Debugger.viewing c.args.session.now).view in
    let line = c.args.line.now.items in
    let due : ℕ → Type 0 = λ b. OffersFirst (replies (reply g.settings) v (ended_by line b)) (g.K.Sink.offers c.args.out.now) (g.K.Sink.offers c.answer.new.out) in
    let here : List ℕ → Type 0 = λ l. OffersFirst (replies (reply g.settings) v (l ∷ [])) (g.K.Sink.offers c.args.out.now) (g.K.Sink.offers c.answer.new.out) in
    stops c.from_residual.result _ (replies (reply g.settings) v (ended_by line c.args.byte)) (g.K.Sink.offers c.args.out.now) (g.K.Sink.offers c.answer.new.out) c.from_residual.ensures.1
    (subst due (sym c.if-byte-eq-LF.true) (subst here c.deref.ensures.value (one_first (reply g.settings) v c.deref.result.now (g.K.Sink.offers c.args.out.now) (g.K.Sink.offers c.answer.new.out) c.in_err-next.ensures.offers)))

pub returns-in_err-push-clause-offers : goal.returns-in_err-push-clause-offers
returns-in_err-push-clause-offers g c =
    let due = replies (reply g.settings) (g.S.Debugger.viewing c.args.session.now).view (ended_by c.args.line.now.items c.args.byte) in
    stops c.from_residual-in_err-push.result _ due (g.K.Sink.offers c.args.out.now) (g.K.Sink.offers c.args.out.now) c.from_residual-in_err-push.ensures.1 (first_none due (g.K.Sink.offers c.args.out.now))

pub returns-then-byte-eq-LF-clause-offers : goal.returns-then-byte-eq-LF-clause-offers
returns-then-byte-eq-LF-clause-offers g c =
    let v = (g.S.Debugger.viewing c.args.session.now).view in
    let line = c.args.line.now.items in
    let due : ℕ → Type 0 = λ b. OffersAll (replies (reply g.settings) v (ended_by line b)) (g.K.Sink.offers c.args.out.now) (g.K.Sink.offers c.answer.new.out) in
    let here : List ℕ → Type 0 = λ l. OffersAll (replies (reply g.settings) v (l ∷ [])) (g.K.Sink.offers c.args.out.now) (g.K.Sink.offers c.answer.new.out) in
    subst due (sym c.if-byte-eq-LF.true) (subst here c.deref.ensures.value (one_all (reply g.settings) v c.deref.result.now (g.K.Sink.offers c.args.out.now) (g.K.Sink.offers c.answer.new.out) c.in_ok-next.ensures.offers))
