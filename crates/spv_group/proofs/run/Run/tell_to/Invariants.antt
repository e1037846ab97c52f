use Rattle.std.proofs.Common.{◌-◌, ◌++◌, List}
use Rattle.spv_base.specs.declared.happenings.Happening.{Happening}
use Rattle.spv_group.specs.Motion.{IsRun}
use Rattle.spv_group.specs.Run.{happenings_between}
use Rattle.spv_group.proofs.Tellings.{IsOnWay}
use Rattle.spv_group.proofs.run.Run.tell_to.Given as goal

-- what was told so far
abbrev pub invariant-up : goal.invariant-up
invariant-up g l = record {
  run : IsRun l.m l.schedule l.fn.self.world.limit l.self.world l.self.position;
  way : IsOnWay l.fn.self.position l.target l.fn.steps l.self.position l.steps;
  told : (before : List Happening) → g.W.Witness.follows before l.fn.witness → g.W.Witness.follows (before ++ happenings_between l.m l.schedule.list l.fn.self.position l.self.position) l.witness;
}

abbrev pub decreases-up : goal.decreases-up
decreases-up g l = l.target - l.self.position
