use Rattle.std.proofs.Common.{◌≡◌, ◌+◌, ◌++◌, ℕ, sym, subst}
use Rattle.spv_group.specs.Motion.{IsRun}
use Rattle.spv_group.specs.Run.{end_of, happenings_between}
use Rattle.spv_group.proofs.Tellings.{no_success, none_yet, one_more, all_told, way_begins, way_goes_on, way_takes, way_takes_more, way_ends, way_shortens, within_end, counts_on}
use Rattle.spv_group.proofs.run.Run.tell_to.Goals as goal

pub up-init : goal.up-init
up-init g c = record {
  run = c.requires.run;
  way = way_begins c.args.self.now.position c.args.target c.args.steps.now c.requires.later;
  told = λ before h. none_yet g.W.Witness.follows c.args.m.now c.args.schedule.now.list c.args.self.now.position before c.args.witness.now h;
}

pub make_next-requires-clause-run : goal.make_next-requires-clause-run
make_next-requires-clause-run g c =
    subst (λ (l : ℕ). IsRun c.args.m.now c.args.schedule.now l c.up.self.world c.up.self.position) (sym c.up.invariant.run.room) c.up.invariant.run

pub make_next-requires-clause-before : goal.make_next-requires-clause-before
make_next-requires-clause-before g c =
    within_end c.up.self.position c.args.target (end_of c.args.m.now c.args.schedule.now.list) c.up-test.true c.requires.within

pub returns-in_err-happening : goal.returns-in_err-happening
returns-in_err-happening g c = record {
  told = λ before h. no_success c.from_residual.result _ _ c.from_residual.ensures.1;
  counted = counts_on c.args.steps.now c.up.steps c.make_next.new.steps c.up.invariant.way.counted c.make_next.ensures.counted;
  cost = way_takes_more c.args.self.now.position c.args.target c.args.steps.now c.up.self.position c.up.steps c.make_next.new.steps c.up.invariant.way c.up-test.true c.make_next.ensures.cost;
}

pub returns-in_err-tell : goal.returns-in_err-tell
returns-in_err-tell g c = record {
  told = λ before h. no_success c.from_residual-in_err-tell.result _ _ c.from_residual-in_err-tell.ensures.1;
  counted = counts_on c.args.steps.now c.up.steps c.make_next.new.steps c.up.invariant.way.counted c.make_next.ensures.counted;
  cost = way_takes_more c.args.self.now.position c.args.target c.args.steps.now c.up.self.position c.up.steps c.make_next.new.steps c.up.invariant.way c.up-test.true c.make_next.ensures.cost;
}

pub up-preserved : goal.up-preserved
up-preserved g c = record {
  run = subst (λ (l : ℕ). IsRun c.args.m.now c.args.schedule.now l c.make_next.new.self.world c.make_next.new.self.position) c.up.invariant.run.room c.make_next.ensures.run;
  way = way_goes_on c.args.self.now.position c.args.target c.args.steps.now c.up.self.position c.up.steps c.make_next.new.self.position c.make_next.new.steps c.up.invariant.way c.up-test.true c.in_ok-happening.ensures.position c.make_next.ensures.counted c.make_next.ensures.cost;
  told = λ before h. one_more g.W.Witness.follows c.args.m.now c.args.schedule.now.list c.args.self.now.position c.up.self.position c.make_next.new.self.position before c.in_ok-happening.happening c.tell.new.self c.up.invariant.way.later c.in_ok-happening.ensures.position c.in_ok-happening.ensures.event
      (c.in_ok-tell.ensures (before ++ happenings_between c.args.m.now c.args.schedule.now.list c.args.self.now.position c.up.self.position) (c.up.invariant.told before h));
}

pub up-smaller : goal.up-smaller
up-smaller g c = way_shortens c.up.self.position c.make_next.new.self.position c.args.target c.up-test.true c.in_ok-happening.ensures.position

pub returns : goal.returns
returns g c = record {
  told = λ before h. all_told g.W.Witness.follows c.args.m.now c.args.schedule.now.list c.args.self.now.position c.up.self.position c.args.target before c.up.witness
      (way_ends c.args.self.now.position c.args.target c.args.steps.now c.up.self.position c.up.steps c.up.invariant.way c.up-test.false) (c.up.invariant.told before h);
  counted = c.up.invariant.way.counted;
  cost = way_takes c.args.self.now.position c.args.target c.args.steps.now c.up.self.position c.up.steps c.up.invariant.way;
}
