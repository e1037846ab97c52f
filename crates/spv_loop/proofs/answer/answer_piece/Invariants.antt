use Rattle.std.proofs.Common.{◌≡◌, ◌≤◌, List, ℕ, ◌++◌, drop}
use Rattle.std.specs.Io.KnownBytes.{Appends}
use Rattle.spv_session.specs.Costs.{line_cost}
use Rattle.spv_session.specs.Reply.{reply}
use Rattle.spv_loop.specs.Lines.{complete_from, rest_from}
use Rattle.spv_loop.specs.Transcript.{transcript, view_after, has_quit}
use Rattle.spv_loop.proofs.Offerings.{IsOffering}
use Rattle.spv_loop.proofs.Spending.{IsSpending}
use Rattle.spv_loop.proofs.answer.answer_piece.Given as goal

-- what was written and what is due of the bytes left are what is due of all
abbrev pub invariant-loop-byte : goal.invariant-loop-byte
invariant-loop-byte g l = record {
  kit : g.S.Debugger.follows g.settings l.session;
  written : (put : List ℕ) × Appends (g.K.Sink.taken l.fn.out) (g.K.Sink.taken l.out) put
      × (put ++ transcript (reply g.settings) (g.S.Debugger.viewing l.session).view (complete_from l.line.items (drop l.byte-index l.piece)) ≡ transcript (reply g.settings) (g.S.Debugger.viewing l.fn.session).view (complete_from l.fn.line.items l.piece));
  quit : has_quit (complete_from l.line.items (drop l.byte-index l.piece)) ≡ has_quit (complete_from l.fn.line.items l.piece);
  view : view_after (reply g.settings) (g.S.Debugger.viewing l.session).view (complete_from l.line.items (drop l.byte-index l.piece)) ≡ view_after (reply g.settings) (g.S.Debugger.viewing l.fn.session).view (complete_from l.fn.line.items l.piece);
  rest : rest_from l.line.items (drop l.byte-index l.piece) ≡ rest_from l.fn.line.items l.piece;
  offering : IsOffering (reply g.settings) (g.S.Debugger.viewing l.fn.session).view (g.S.Debugger.viewing l.session).view (complete_from l.fn.line.items l.piece) (complete_from l.line.items (drop l.byte-index l.piece)) (g.K.Sink.offers l.fn.out) (g.K.Sink.offers l.out);
  count : g.K.Sink.faults l.out ≡ g.K.Sink.faults l.fn.out;
  risen : l.fn.steps ≤ l.steps;
  spending : IsSpending (reply g.settings) (line_cost g.settings) (g.S.Debugger.viewing l.fn.session) (g.S.Debugger.viewing l.session) (complete_from l.fn.line.items l.piece) (complete_from l.line.items (drop l.byte-index l.piece)) l.fn.steps l.steps;
}

abbrev pub ghost-answer_byte : goal.ghost-answer_byte
ghost-answer_byte g a = g.settings
