use Rattle.std.proofs.Common.{◌≡◌, ◌≤◌, ◌+◌, ◌-◌, ◌++◌, ℕ, sym, subst}
use Rattle.std.specs.Prelude.{OnOk}
use Rattle.spv_group.specs.Motion.{IsRun}
use Rattle.spv_group.specs.Run.{happenings_between}
use Rattle.spv_group.proofs.Tellings.{no_success, first_limit, no_fewer, no_more}
use Rattle.spv_group.proofs.run.Run.tell_ahead.Goals as goal

pub copy-requires : goal.copy-requires
copy-requires g c = record { run = (c.args.self.now.world.limit, c.requires.run); limit = first_limit }

pub tell_to-requires : goal.tell_to-requires
tell_to-requires g c = record {
  run = subst (λ (l : ℕ). IsRun c.args.m.now c.args.schedule.now l c.in_ok-ahead.ahead.world c.in_ok-ahead.ahead.position) (sym c.in_ok-ahead.ensures.run.room) c.in_ok-ahead.ensures.run;
  later = subst (λ (n : ℕ). n ≤ c.args.target) (sym c.in_ok-ahead.ensures.position) c.requires.later;
  within = c.requires.within;
}

pub returns-in_err-ahead : goal.returns-in_err-ahead
returns-in_err-ahead g c = record {
  told = λ before h. no_success c.from_residual.result _ _ c.from_residual.ensures.1;
  counted = no_fewer c.args.steps.now;
  cost = no_more c.args.steps.now (c.args.target - c.args.self.now.position);
}

pub returns : goal.returns
returns g c = record {
  told = λ before h. subst (λ (n : ℕ). OnOk c.tell_to.result (g.W.Witness.follows (before ++ happenings_between c.args.m.now c.args.schedule.now.list n c.args.target) c.tell_to.new.witness))
      c.in_ok-ahead.ensures.position (c.tell_to.ensures.told before h);
  counted = c.tell_to.ensures.counted;
  cost = subst (λ (n : ℕ). c.tell_to.new.steps ≤ c.args.steps.now + (c.args.target - n)) c.in_ok-ahead.ensures.position c.tell_to.ensures.cost;
}
