use Rattle.std.proofs.Common.{◌≡◌, ◌≤◌, ◌-◌}
use Rattle.spv_session.specs.Costs.{line_cost}
use Rattle.spv_session.specs.Reply.{reply}
use Rattle.spv_loop.specs.Limits.{input_limit}
use Rattle.spv_loop.proofs.Runs.{Stands}
use Rattle.spv_loop.proofs.command_loop.answer_input.Given as goal

abbrev pub invariant-loop-count : goal.invariant-loop-count
invariant-loop-count g l = record {
  kit : g.S.Debugger.follows g.settings l.session;
  stands : Stands (reply g.settings) (line_cost g.settings) (g.S.Debugger.viewing l.fn.session) (record { left = g.I.Source.left l.fn.input; held = g.K.Sink.taken l.fn.out; offers = g.K.Sink.offers l.fn.out; steps = l.fn.steps })
      (record { left = g.I.Source.left l.input; held = g.K.Sink.taken l.out; offers = g.K.Sink.offers l.out; steps = l.steps }) (g.S.Debugger.viewing l.session) l.line.items l.taken;
  few : l.taken ≤ input_limit;
  reads : g.I.Source.faults l.input ≡ g.I.Source.faults l.fn.input;
  ends : g.I.Source.ends l.input ≡ g.I.Source.ends l.fn.input;
  writes : g.K.Sink.faults l.out ≡ g.K.Sink.faults l.fn.out;
}

abbrev pub decreases-loop-count : goal.decreases-loop-count
decreases-loop-count g l = 16777217 - l.taken

abbrev pub ghost-answer_last : goal.ghost-answer_last
ghost-answer_last g a = g.settings

abbrev pub ghost-answer_piece : goal.ghost-answer_piece
ghost-answer_piece g a = g.settings
