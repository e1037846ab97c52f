use Rattle.std.proofs.Common.{◌≡◌, ◌≤◌, ◌+◌, ◌-◌, max}
use Rattle.spv_group.specs.History.{window}
use Rattle.spv_group.specs.Motion.{IsRun, kept_in}
use Rattle.spv_group.proofs.run.Run.run_to.Given as goal

abbrev pub invariant-up : goal.invariant-up
invariant-up g l = record {
  run : IsRun l.m l.schedule l.fn.self.world.limit l.self.world l.self.position;
  later : l.fn.self.position ≤ l.self.position;
  until : l.self.position ≤ max l.fn.self.position l.target;
  counted : l.steps ≡ l.fn.steps + (l.self.position - l.fn.self.position);
  kept : kept_in l.self.world l.self.position ≤ max (kept_in l.fn.self.world l.fn.self.position) (window l.fn.self.world.limit l.m l.schedule.list l.self.position);
}

abbrev pub decreases-up : goal.decreases-up
decreases-up g l = l.target - l.self.position
