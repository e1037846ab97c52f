use Rattle.std.proofs.Common.{◌≡◌, ◌≤◌, ◌++◌, None, length, drop}
use Rattle.spv_setup.specs.Schedule.{stray_line, entries_of}
use Rattle.spv_setup.proofs.schedule.Schedule.of.Given as goal

abbrev pub invariant-loop-run : goal.invariant-loop-run
invariant-loop-run l = record {
  invocations : l.schedule.invocations ≡ l.invocations;
  exist : stray_line l.invocations (drop l.run-index l.runs) ≡ None;
  joined : l.schedule.list ++ entries_of l.invocations (drop l.run-index l.runs) ≡ entries_of l.invocations l.runs;
  most : length l.schedule.list ≤ 4194304;
}
