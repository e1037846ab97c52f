use Rattle.std.proofs.Common.{◌≡◌, ℕ, Ok, List, [], ◌∷◌, ◌++◌, drop, get_or, ◌+◌, false, ap, sym, subst, ◌∙◌, arith}
use Rattle.std.proofs.lemmas.List.{drop_more, drop_all}
use Rattle.std.proofs.KnownBytes.{Appends-trans}
use Rattle.spv_session.specs.Costs.{line_cost}
use Rattle.spv_session.specs.Reply.{reply}
use Rattle.spv_loop.specs.Lines.{complete_from, rest_from, ended_by, line_after}
use Rattle.spv_loop.specs.Transcript.{transcript, replies, view_after, has_quit}
use Rattle.spv_loop.proofs.Spending.{IsSpending, spending_more, spending_stops}
use Rattle.spv_loop.proofs.Offerings.{IsOffering, stops, none_all, offering_more, offering_stops, offering_quits}
use Rattle.spv_loop.proofs.Pieces.{hands_on, goes, quits, due_more, view_more, quit_more, stop_first}
use Rattle.spv_loop.proofs.answer.answer_piece.Goals as goal

pub loop-byte-preserved : goal.loop-byte-preserved
loop-byte-preserved g c =
    let b = get_or c.args.piece.now c.loop-byte.byte-index 0 in
    let bs = drop (c.loop-byte.byte-index + 1) c.args.piece.now in
    let line = c.loop-byte.line.items in
    let h = c.in_ok-answer_byte.ensures in
    let inv = c.loop-byte.invariant in
    let e : drop c.loop-byte.byte-index c.args.piece.now ≡ b ∷ bs = drop_more c.args.piece.now c.loop-byte.byte-index 0 c.loop-byte-test.true in
    let go : has_quit (ended_by line b) ≡ false = goes (has_quit (ended_by line b)) _ c.in-Go.is h.next in
    let later = complete_from (line_after line b) bs in
    let now : complete_from c.answer_byte.new.line.items bs ≡ later = ap (λ l. complete_from l bs) h.rest in
    let all : complete_from line (drop c.loop-byte.byte-index c.args.piece.now) ≡ ended_by line b ++ later = ap (complete_from line) e in
    record {
      kit = h.kit;
      written = (
        inv.written.0 ++ transcript (reply g.settings) (g.S.Debugger.viewing c.loop-byte.session).view (ended_by line b),
        Appends-trans _ _ _ _ _ inv.written.1 h.written,
        rw (h.view, now) (due_more (reply g.settings) inv.written.0 _ (g.S.Debugger.viewing c.loop-byte.session).view (ended_by line b) later go (ap (λ l. inv.written.0 ++ transcript (reply g.settings) (g.S.Debugger.viewing c.loop-byte.session).view l) (sym all) ∙ inv.written.2)),
      );
      quit = ap has_quit now ∙ sym (quit_more (ended_by line b) later go) ∙ ap has_quit (sym all) ∙ inv.quit;
      view = rw (h.view, now) (sym (view_more (reply g.settings) (g.S.Debugger.viewing c.loop-byte.session).view (ended_by line b) later go) ∙ ap (view_after (reply g.settings) (g.S.Debugger.viewing c.loop-byte.session).view) (sym all) ∙ inv.view);
      rest = ap (λ l. rest_from l bs) h.rest ∙ ap (rest_from line) (sym e) ∙ inv.rest;
      offering = subst (λ (ls : List (List ℕ)). IsOffering (reply g.settings) (g.S.Debugger.viewing c.args.session.now).view (g.S.Debugger.viewing c.answer_byte.new.session).view (complete_from c.args.line.now.items c.args.piece.now) ls (g.K.Sink.offers c.args.out.now) (g.K.Sink.offers c.answer_byte.new.out)) (sym now)
          (offering_more (reply g.settings) (g.S.Debugger.viewing c.args.session.now).view (g.S.Debugger.viewing c.loop-byte.session).view (g.S.Debugger.viewing c.answer_byte.new.session).view (complete_from c.args.line.now.items c.args.piece.now) (complete_from line (drop c.loop-byte.byte-index c.args.piece.now)) (ended_by line b) later
          (g.K.Sink.offers c.args.out.now) (g.K.Sink.offers c.loop-byte.out) (g.K.Sink.offers c.answer_byte.new.out) inv.offering all go h.view h.offers);
      count = h.count ∙ inv.count;
      risen = omega (arith, inv.risen, h.counted);
      spending = subst (λ (ls : List (List ℕ)). IsSpending (reply g.settings) (line_cost g.settings) (g.S.Debugger.viewing c.args.session.now) (g.S.Debugger.viewing c.answer_byte.new.session) (complete_from c.args.line.now.items c.args.piece.now) ls c.args.steps.now c.answer_byte.new.steps) (sym now)
          (spending_more (reply g.settings) (line_cost g.settings) (g.S.Debugger.viewing c.args.session.now) (g.S.Debugger.viewing c.loop-byte.session) (g.S.Debugger.viewing c.answer_byte.new.session) (complete_from c.args.line.now.items c.args.piece.now) (complete_from line (drop c.loop-byte.byte-index c.args.piece.now)) (ended_by line b) later
          c.args.steps.now c.loop-byte.steps c.answer_byte.new.steps inv.spending all go h.view (h.reach (ap Ok c.in-Go.is)) h.cost);
    }

pub returns-in_err-answer_byte-clause-stop : goal.returns-in_err-answer_byte-clause-stop
returns-in_err-answer_byte-clause-stop g c =
    let b = get_or c.args.piece.now c.loop-byte.byte-index 0 in
    let bs = drop (c.loop-byte.byte-index + 1) c.args.piece.now in
    let line = c.loop-byte.line.items in
    let inv = c.loop-byte.invariant in
    let e : drop c.loop-byte.byte-index c.args.piece.now ≡ b ∷ bs = drop_more c.args.piece.now c.loop-byte.byte-index 0 c.loop-byte-test.true in
    hands_on _ _ _ c.from_residual.ensures.1
    (stop_first (reply g.settings) _ _ _ _ inv.written.0 _ (g.S.Debugger.viewing c.loop-byte.session).view (ended_by line b) (complete_from (line_after line b) bs) inv.written.1
    (ap (λ l. inv.written.0 ++ transcript (reply g.settings) (g.S.Debugger.viewing c.loop-byte.session).view (complete_from line l)) (sym e) ∙ inv.written.2)
    c.in_err-answer_byte.ensures.stop)

pub returns-in_err-answer_byte-clause-cost : goal.returns-in_err-answer_byte-clause-cost
returns-in_err-answer_byte-clause-cost g c =
    let b = get_or c.args.piece.now c.loop-byte.byte-index 0 in
    let bs = drop (c.loop-byte.byte-index + 1) c.args.piece.now in
    let line = c.loop-byte.line.items in
    let e : drop c.loop-byte.byte-index c.args.piece.now ≡ b ∷ bs = drop_more c.args.piece.now c.loop-byte.byte-index 0 c.loop-byte-test.true in
    spending_stops (reply g.settings) (line_cost g.settings) (g.S.Debugger.viewing c.args.session.now) (g.S.Debugger.viewing c.loop-byte.session) (complete_from c.args.line.now.items c.args.piece.now) (complete_from line (drop c.loop-byte.byte-index c.args.piece.now)) (ended_by line b) (complete_from (line_after line b) bs)
    c.args.steps.now c.loop-byte.steps c.answer_byte.new.steps c.loop-byte.invariant.spending (ap (complete_from line) e) c.in_err-answer_byte.ensures.cost

pub returns-in-Quit-clause-cost : goal.returns-in-Quit-clause-cost
returns-in-Quit-clause-cost g c =
    let b = get_or c.args.piece.now c.loop-byte.byte-index 0 in
    let bs = drop (c.loop-byte.byte-index + 1) c.args.piece.now in
    let line = c.loop-byte.line.items in
    let e : drop c.loop-byte.byte-index c.args.piece.now ≡ b ∷ bs = drop_more c.args.piece.now c.loop-byte.byte-index 0 c.loop-byte-test.true in
    spending_stops (reply g.settings) (line_cost g.settings) (g.S.Debugger.viewing c.args.session.now) (g.S.Debugger.viewing c.loop-byte.session) (complete_from c.args.line.now.items c.args.piece.now) (complete_from line (drop c.loop-byte.byte-index c.args.piece.now)) (ended_by line b) (complete_from (line_after line b) bs)
    c.args.steps.now c.loop-byte.steps c.answer_byte.new.steps c.loop-byte.invariant.spending (ap (complete_from line) e) c.answer_byte.ensures.cost

pub returns-in_err-answer_byte-clause-offers : goal.returns-in_err-answer_byte-clause-offers
returns-in_err-answer_byte-clause-offers g c =
    let b = get_or c.args.piece.now c.loop-byte.byte-index 0 in
    let bs = drop (c.loop-byte.byte-index + 1) c.args.piece.now in
    let line = c.loop-byte.line.items in
    let all = complete_from c.args.line.now.items c.args.piece.now in
    let e : drop c.loop-byte.byte-index c.args.piece.now ≡ b ∷ bs = drop_more c.args.piece.now c.loop-byte.byte-index 0 c.loop-byte-test.true in
    stops c.from_residual.result _ (replies (reply g.settings) (g.S.Debugger.viewing c.args.session.now).view all) (g.K.Sink.offers c.args.out.now) (g.K.Sink.offers c.answer_byte.new.out) c.from_residual.ensures.1
    (offering_stops (reply g.settings) (g.S.Debugger.viewing c.args.session.now).view (g.S.Debugger.viewing c.loop-byte.session).view all (complete_from line (drop c.loop-byte.byte-index c.args.piece.now)) (ended_by line b) (complete_from (line_after line b) bs)
    (g.K.Sink.offers c.args.out.now) (g.K.Sink.offers c.loop-byte.out) (g.K.Sink.offers c.answer_byte.new.out) c.loop-byte.invariant.offering (ap (complete_from line) e) c.in_err-answer_byte.ensures.offers)

pub returns-in-Quit-clause-offers : goal.returns-in-Quit-clause-offers
returns-in-Quit-clause-offers g c =
    let b = get_or c.args.piece.now c.loop-byte.byte-index 0 in
    let bs = drop (c.loop-byte.byte-index + 1) c.args.piece.now in
    let line = c.loop-byte.line.items in
    let e : drop c.loop-byte.byte-index c.args.piece.now ≡ b ∷ bs = drop_more c.args.piece.now c.loop-byte.byte-index 0 c.loop-byte-test.true in
    offering_quits (reply g.settings) (g.S.Debugger.viewing c.args.session.now).view (g.S.Debugger.viewing c.loop-byte.session).view (complete_from c.args.line.now.items c.args.piece.now) (complete_from line (drop c.loop-byte.byte-index c.args.piece.now)) (ended_by line b) (complete_from (line_after line b) bs)
    (g.K.Sink.offers c.args.out.now) (g.K.Sink.offers c.loop-byte.out) (g.K.Sink.offers c.answer_byte.new.out) c.loop-byte.invariant.offering (ap (complete_from line) e)
    (quits (has_quit (ended_by line b)) _ c.in-Quit.is c.in_ok-answer_byte.ensures.next) c.in_ok-answer_byte.ensures.offers

pub returns-clause-offers : goal.returns-clause-offers
returns-clause-offers g c =
    let left = drop c.loop-byte.byte-index c.args.piece.now in
    let none : left ≡ [] = drop_all c.loop-byte.byte-index c.args.piece.now c.loop-byte-test.false in
    c.loop-byte.invariant.offering.whole (g.K.Sink.offers c.loop-byte.out) (none_all (reply g.settings) (g.S.Debugger.viewing c.loop-byte.session).view (complete_from c.loop-byte.line.items left) (g.K.Sink.offers c.loop-byte.out) (ap (complete_from c.loop-byte.line.items) none))
