use Rattle.std.proofs.Common.{◌≡◌, drop}
use Rattle.spv_setup.specs.Schedule.{stray_line}
use Rattle.spv_setup.proofs.schedule.check_moves.Given as goal

abbrev pub invariant-loop-run : goal.invariant-loop-run
invariant-loop-run l = stray_line l.invocations (drop l.run-index l.runs) ≡ stray_line l.invocations l.runs
