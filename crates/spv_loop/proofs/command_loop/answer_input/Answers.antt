use Rattle.std.proofs.Common.{◌≡◌, ◌+◌, take, [], arith, ap, ◌∙◌, refl, subst, Ok}
use Rattle.spv_session.specs.Costs.{line_cost}
use Rattle.spv_session.specs.Reply.{reply}
use Rattle.spv_loop.proofs.Pieces.{goes, quits}
use Rattle.spv_loop.proofs.Runs.{Stands, stands_more, ran_read_fault, ran_end, ran_end_stop, ran_too_long, ran_quit, ran_stop}
use Rattle.spv_loop.proofs.command_loop.answer_input.Goals as goal
use Rattle.spv_loop.proofs.command_loop.answer_input.Goals.{in-Ok-answer_last, in-Err-answer_last}

pub returns-in-Err-clause-ran : goal.returns-in-Err-clause-ran
returns-in-Err-clause-ran g c = ran_read_fault (reply g.settings) (line_cost g.settings) _ _ _ _ _ _ _ c.loop-count.invariant.stands refl refl refl c.in-Err.ensures.kept c.loop-count.invariant.few

pub returns-then-count-eq0-clause-ran : goal.returns-then-count-eq0-clause-ran
returns-then-count-eq0-clause-ran g c =
    let none : take c.in-Ok.count c.read_piece.new.buf ≡ [] = ap (λ n. take n c.read_piece.new.buf) c.if-count-eq0.true in
    elim c.match-answer_last.branch [
      | in-Ok-answer_last w ↦
          rw w.result-is (ran_end (reply g.settings) (line_cost g.settings) _ _ _ _ _ _ _ c.loop-count.invariant.stands w.in-Ok-answer_last.ensures.counted _ c.deref.ensures.value _ none c.in-Ok.ensures.bytes (c.in-Ok.ensures.end c.if-count-eq0.true) c.loop-count.invariant.few
          w.in-Ok-answer_last.ensures.cost w.in-Ok-answer_last.ensures.written w.in-Ok-answer_last.ensures.offers)
      | in-Err-answer_last w ↦
          rw (w.result-is, w.from.ensures) (ran_end_stop (reply g.settings) (line_cost g.settings) _ _ _ _ _ _ _ c.loop-count.invariant.stands w.in-Err-answer_last.ensures.counted _ c.deref.ensures.value _ none c.in-Ok.ensures.bytes (c.in-Ok.ensures.end c.if-count-eq0.true) c.loop-count.invariant.few
          w.in-Err-answer_last.ensures.cost w.in-Err-answer_last.stop w.in-Err-answer_last.ensures.stop w.in-Err-answer_last.ensures.offers)
    ]

pub returns-then-taken-gt-INPUT_LIMIT-clause-ran : goal.returns-then-taken-gt-INPUT_LIMIT-clause-ran
returns-then-taken-gt-INPUT_LIMIT-clause-ran g c =
    ran_too_long (reply g.settings) (line_cost g.settings) _ _ _ _ _ _ _ c.loop-count.invariant.stands refl refl refl _ c.in-Ok.count c.in-Ok.ensures.count_is (omega (arith, c.in-Ok.ensures.bound)) c.in-Ok.ensures.bytes (omega (arith, c.in-Ok.ensures.bound))

pub loop-count-preserved : goal.loop-count-preserved
loop-count-preserved g c =
    let h = c.in-Ok-Go.ensures in
    let n = c.in-Ok.ensures.count_is in
    record {
      kit = h.kit;
      stands = subst (Stands (reply g.settings) (line_cost g.settings) _ _ _ _ _) (ap (λ k. c.loop-count.taken + k) n)
          (stands_more (reply g.settings) (line_cost g.settings) _ _ _ _ _ _ _ _ _ _ c.loop-count.invariant.stands c.in-Ok.ensures.bytes h.written (goes _ _ c.in-Ok-Go.field-0-is h.next) h.view (h.rest (ap Ok c.in-Ok-Go.field-0-is)) h.offers h.counted (h.reach (ap Ok c.in-Ok-Go.field-0-is)) h.cost);
      few = omega (arith, c.in-Ok.ensures.bound);
      reads = c.in-Ok.ensures.count ∙ c.loop-count.invariant.reads;
      ends = c.in-Ok.ensures.goes (omega (arith, c.if-count-eq0.false)) ∙ c.loop-count.invariant.ends;
      writes = h.count ∙ c.loop-count.invariant.writes;
    }

pub returns-in-Ok-Quit-clause-ran : goal.returns-in-Ok-Quit-clause-ran
returns-in-Ok-Quit-clause-ran g c =
    ran_quit (reply g.settings) (line_cost g.settings) _ _ _ _ _ _ _ c.loop-count.invariant.stands c.in-Ok-Quit.ensures.counted _ c.in-Ok.count c.in-Ok.ensures.count_is (omega (arith, c.in-Ok.ensures.bound)) c.in-Ok.ensures.bytes (omega (arith, c.in-Ok.ensures.bound))
    c.in-Ok-Quit.ensures.cost c.in-Ok-Quit.ensures.written (quits _ _ c.in-Ok-Quit.field-0-is c.in-Ok-Quit.ensures.next) c.in-Ok-Quit.ensures.offers

pub returns-in-Err-answer_piece-clause-ran : goal.returns-in-Err-answer_piece-clause-ran
returns-in-Err-answer_piece-clause-ran g c =
    rw c.from-in-Err-answer_piece.ensures
    (ran_stop (reply g.settings) (line_cost g.settings) _ _ _ _ _ _ _ c.loop-count.invariant.stands c.in-Err-answer_piece.ensures.counted _ c.in-Ok.count c.in-Ok.ensures.count_is (omega (arith, c.in-Ok.ensures.bound)) c.in-Ok.ensures.bytes (omega (arith, c.in-Ok.ensures.bound))
    c.in-Err-answer_piece.ensures.cost c.in-Err-answer_piece.stop c.in-Err-answer_piece.ensures.stop c.in-Err-answer_piece.ensures.offers)
