use Rattle.std.proofs.Common.{◌≡◌, ◌≤◌, ℕ, ◌+◌, max, subst, arith}
use Rattle.spv_group.specs.History.{window}
use Rattle.spv_group.specs.Motion.{IsRun, kept_in}
use Rattle.spv_group.proofs.WindowLemmas.{windows_rise}
use Rattle.spv_group.proofs.run.Run.run_to.Goals as goal

pub up-preserved : goal.up-preserved
up-preserved g c =
    let goes = rw c.in_default.is at c.in_ok-forth.ensures.goes in
    let cost = rw c.in_default.is at c.in_ok-forth.ensures.cost in
    let keeps = rw c.in_default.is at c.in_ok-forth.ensures.kept in
    let on : c.forth.new.self.position ≡ c.up.self.position + 1 = goes.2 in
    let counted : c.forth.new.steps ≡ c.up.steps + 1 = cost in
    let kept : kept_in c.forth.new.self.world c.forth.new.self.position ≤ max (kept_in c.up.self.world c.up.self.position) (window c.args.self.now.world.limit c.args.m.now c.args.schedule.now.list c.forth.new.self.position)
    = subst (λ (l : ℕ). kept_in c.forth.new.self.world c.forth.new.self.position ≤ max (kept_in c.up.self.world c.up.self.position) (window l c.args.m.now c.args.schedule.now.list c.forth.new.self.position)) c.up.invariant.run.room keeps.1 in
    let rises : window c.args.self.now.world.limit c.args.m.now c.args.schedule.now.list c.up.self.position ≤ window c.args.self.now.world.limit c.args.m.now c.args.schedule.now.list c.forth.new.self.position
    = windows_rise c.args.self.now.world.limit c.args.m.now c.args.schedule.now.list c.up.self.position c.forth.new.self.position (omega arith) in
    record {
      run = subst (λ (l : ℕ). IsRun c.args.m.now c.args.schedule.now l c.forth.new.self.world c.forth.new.self.position) c.up.invariant.run.room c.in_ok-forth.ensures.run;
      later = omega arith;
      until = omega arith;
      counted = omega arith;
      kept = omega arith;
    }
