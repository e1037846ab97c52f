use Rattle.std.proofs.Common.{◌≡◌, ◌≤◌, ℕ, length, refl, sym, ap, ◌∙◌, subst}
use Rattle.spv_group.specs.declared.run.Run.{Run}
use Rattle.spv_group.specs.Group.{Undoing, end_in}
use Rattle.spv_group.specs.History.{window}
use Rattle.spv_group.specs.Motion.{IsOpened, IsRun, kept_in}
use Rattle.spv_group.specs.Run.{end_of}
use Rattle.spv_group.proofs.Tellings.{no_success, on_failure, no_fewer, no_more, kept_before, counts_on, came_to, comes_before, took, took_both, keeps_from_start, opens_again, held_at, within_in, told_in}
use Rattle.spv_group.proofs.group.Group.back_to.Goals as goal

pub copy-requires : goal.copy-requires
copy-requires g c = record { run = (1, c.self.invariant.begun); limit = c.self.invariant.now.some }

pub run_to-requires : goal.run_to-requires
run_to-requires g c =
    let group = c.self.inside in
    subst (λ (l : ℕ). IsRun group.module group.schedule l c.in_ok-run.run'.world c.in_ok-run.run'.position) (sym c.in_ok-run.ensures.run.room) c.in_ok-run.ensures.run

pub tell_ahead-requires : goal.tell_ahead-requires
tell_ahead-requires g c =
    let group = c.self.inside in
    let here = ap (λ (u : Undoing). u.group.position) c.self.view_is in
    let there = came_to group.module group.schedule group.limit group.start.world group.start.position group.run.world group.run.position c.args.self.now.group.position c.args.target c.in_ok-run.run'.position c.self.invariant here c.requires c.in_ok-run.ensures.position c.run_to.new.self.position c.in_ok-run_to.ensures.position in
    record {
      run = subst (λ (l : ℕ). IsRun group.module group.schedule l c.run_to.new.self.world c.run_to.new.self.position) (sym c.run_to.ensures.run.room) c.run_to.ensures.run;
      later = comes_before group.module group.schedule group.limit group.start.world group.start.position group.run.world group.run.position c.args.self.now.group.position c.args.target c.in_ok-run.run'.position c.self.invariant here c.requires c.in_ok-run.ensures.position c.run_to.new.self.position there;
      within = c.self.invariant.now.within;
    }

pub returns-in_err-run : goal.returns-in_err-run
returns-in_err-run g c =
    let group = c.self.inside in
    let here = ap (λ (u : Undoing). u.group.position) c.self.view_is in
    record {
      target = no_success c.from_residual.result _ _ c.from_residual.ensures.1;
      told = λ before h. no_success c.from_residual.result _ _ c.from_residual.ensures.1;
      kept = no_success c.from_residual.result _ _ c.from_residual.ensures.1;
      reached = no_success c.from_residual.result _ _ c.from_residual.ensures.1;
      limit = refl;
      within = subst (λ (n : ℕ). n ≤ end_in c.args.self.now.group) here (within_in group.module group.schedule group.run.position group.run.position c.args.self.now.group (ap (λ (u : Undoing). u.group) c.self.view_is) c.self.invariant.now.within);
      err = on_failure c.from_residual.result _ c.from_residual.ensures.1 refl;
      counted = no_fewer c.args.steps.now;
      cost = no_more c.args.steps.now c.args.self.now.group.position;
    }

pub returns-in_err-run_to : goal.returns-in_err-run_to
returns-in_err-run_to g c =
    let group = c.self.inside in
    let here = ap (λ (u : Undoing). u.group.position) c.self.view_is in
    let so_far = took group.module group.schedule group.limit group.start.world group.start.position group.run.world group.run.position c.args.self.now.group.position c.args.target c.in_ok-run.run'.position c.self.invariant here c.requires c.in_ok-run.ensures.position c.run_to.new.self.position c.args.steps.now c.run_to.new.steps c.run_to.ensures.counted c.run_to.ensures.cost in
    record {
      target = no_success c.from_residual-in_err-run_to.result _ _ c.from_residual-in_err-run_to.ensures.1;
      told = λ before h. no_success c.from_residual-in_err-run_to.result _ _ c.from_residual-in_err-run_to.ensures.1;
      kept = no_success c.from_residual-in_err-run_to.result _ _ c.from_residual-in_err-run_to.ensures.1;
      reached = no_success c.from_residual-in_err-run_to.result _ _ c.from_residual-in_err-run_to.ensures.1;
      limit = refl;
      within = subst (λ (n : ℕ). n ≤ end_in c.args.self.now.group) here (within_in group.module group.schedule group.run.position group.run.position c.args.self.now.group (ap (λ (u : Undoing). u.group) c.self.view_is) c.self.invariant.now.within);
      err = on_failure c.from_residual-in_err-run_to.result _ c.from_residual-in_err-run_to.ensures.1 refl;
      counted = so_far.0;
      cost = so_far.2;
    }

pub returns-in_err-tell_ahead : goal.returns-in_err-tell_ahead
returns-in_err-tell_ahead g c =
    let group = c.self.inside in
    let here = ap (λ (u : Undoing). u.group.position) c.self.view_is in
    let there = came_to group.module group.schedule group.limit group.start.world group.start.position group.run.world group.run.position c.args.self.now.group.position c.args.target c.in_ok-run.run'.position c.self.invariant here c.requires c.in_ok-run.ensures.position c.run_to.new.self.position c.in_ok-run_to.ensures.position in
    let so_far = took group.module group.schedule group.limit group.start.world group.start.position group.run.world group.run.position c.args.self.now.group.position c.args.target c.in_ok-run.run'.position c.self.invariant here c.requires c.in_ok-run.ensures.position c.run_to.new.self.position c.args.steps.now c.run_to.new.steps c.run_to.ensures.counted c.run_to.ensures.cost in
    record {
      target = no_success c.from_residual-in_err-tell_ahead.result _ _ c.from_residual-in_err-tell_ahead.ensures.1;
      told = λ before h. no_success c.from_residual-in_err-tell_ahead.result _ _ c.from_residual-in_err-tell_ahead.ensures.1;
      kept = no_success c.from_residual-in_err-tell_ahead.result _ _ c.from_residual-in_err-tell_ahead.ensures.1;
      reached = no_success c.from_residual-in_err-tell_ahead.result _ _ c.from_residual-in_err-tell_ahead.ensures.1;
      limit = refl;
      within = subst (λ (n : ℕ). n ≤ end_in c.args.self.now.group) here (within_in group.module group.schedule group.run.position group.run.position c.args.self.now.group (ap (λ (u : Undoing). u.group) c.self.view_is) c.self.invariant.now.within);
      err = on_failure c.from_residual-in_err-tell_ahead.result _ c.from_residual-in_err-tell_ahead.ensures.1 refl;
      counted = counts_on c.args.steps.now c.run_to.new.steps c.tell_ahead.new.steps so_far.0 c.tell_ahead.ensures.counted;
      cost = took_both group.module group.schedule group.limit group.start.world group.start.position group.run.world group.run.position c.args.self.now.group.position c.args.target c.in_ok-run.run'.position c.self.invariant here c.requires c.in_ok-run.ensures.position c.run_to.new.self.position c.args.steps.now c.run_to.new.steps c.tell_ahead.new.steps there so_far.1 c.tell_ahead.ensures.cost;
    }

pub returns : goal.returns
returns g c =
    let group = c.self.inside in
    let here = ap (λ (u : Undoing). u.group.position) c.self.view_is in
    let was = ap (λ (u : Undoing). u.group) c.self.view_is in
    let there = came_to group.module group.schedule group.limit group.start.world group.start.position group.run.world group.run.position c.args.self.now.group.position c.args.target c.in_ok-run.run'.position c.self.invariant here c.requires c.in_ok-run.ensures.position c.run_to.new.self.position c.in_ok-run_to.ensures.position in
    let so_far = took group.module group.schedule group.limit group.start.world group.start.position group.run.world group.run.position c.args.self.now.group.position c.args.target c.in_ok-run.run'.position c.self.invariant here c.requires c.in_ok-run.ensures.position c.run_to.new.self.position c.args.steps.now c.run_to.new.steps c.run_to.ensures.counted c.run_to.ensures.cost in
    let kept = keeps_from_start group.module group.schedule group.limit group.start.world group.start.position group.run.world group.run.position c.args.self.now.group.position c.args.target c.in_ok-run.run'.position c.self.invariant here c.requires c.in_ok-run.ensures.position c.in_ok-run.run'.world.limit (kept_in c.in_ok-run.run'.world c.in_ok-run.run'.position) (kept_in c.run_to.new.self.world c.run_to.new.self.position) c.run_to.new.self.position c.in_ok-run.ensures.kept c.in_ok-run.ensures.run.room c.run_to.ensures.kept in
    let arrived = ap (λ (r : Run). r.position) c.replace.ensures ∙ there in
    record {
      target = held_at group.module group.schedule group.run.position c.replace.new.self.position c.args.target c.args.self.now.group was arrived;
      told = λ before h. told_in g.W.Witness.follows group.module group.schedule group.run.position c.run_to.new.self.position c.args.target before c.tell_ahead.new.witness c.args.self.now.group was there (c.in_ok-tell_ahead.ensures.told before h);
      kept = subst (λ (r : Run). kept_in r.world r.position ≤ window group.limit group.module group.schedule.list r.position) (sym c.replace.ensures) kept;
      reached = kept_before c.replace.new.self.position (length c.replace.new.self.world.ring) c.args.target arrived;
      limit = ap (λ (u : Undoing). u.limit) c.self.view_is;
      within = within_in group.module group.schedule group.run.position c.replace.new.self.position c.args.self.now.group was (subst (λ (r : Run). r.position ≤ end_of group.module group.schedule.list) (sym c.replace.ensures) c.run_to.ensures.run.within);
      err = tt;
      counted = counts_on c.args.steps.now c.run_to.new.steps c.tell_ahead.new.steps so_far.0 c.tell_ahead.ensures.counted;
      cost = took_both group.module group.schedule group.limit group.start.world group.start.position group.run.world group.run.position c.args.self.now.group.position c.args.target c.in_ok-run.run'.position c.self.invariant here c.requires c.in_ok-run.ensures.position c.run_to.new.self.position c.args.steps.now c.run_to.new.steps c.tell_ahead.new.steps there so_far.1 c.tell_ahead.ensures.cost;
    }

pub invariant_of-self : goal.invariant_of-self
invariant_of-self g c =
    let group = c.self.inside in
    let here = ap (λ (u : Undoing). u.group.position) c.self.view_is in
    subst (λ (r : Run). IsOpened group.module group.schedule group.limit group.start.world group.start.position r.world r.position) (sym c.replace.ensures)
    (opens_again group.module group.schedule group.limit group.start.world group.start.position group.run.world group.run.position c.args.self.now.group.position c.args.target c.in_ok-run.run'.position c.self.invariant here c.requires c.in_ok-run.ensures.position c.run_to.new.self.world c.run_to.new.self.position c.in_ok-run.run'.world.limit c.run_to.ensures.run c.in_ok-run.ensures.run.room)
