use Rattle.std.proofs.Common.{◌≡◌, ◌≤◌, ◌+◌, ◌++◌, List, ℕ, subst}
use Rattle.std.specs.Prelude.{OnOk}
use Rattle.spv_loop.specs.Sessions.{View, line_kept}
use Rattle.spv_loop.proofs.Exports.{reply_now, cost_now}
use Rattle.spv_app.proofs.debugging.DebuggingDebugger.command.Goals as goal

pub returns-clause-text : goal.returns-clause-text
returns-clause-text g c settings kit =
    subst (λ (r : List ℕ × View). OnOk c.command.result (c.command.new.out.items ≡ c.args.out.now.items ++ r.0)) (reply_now settings _ c.args.self.now.session.core.view c.args.line.now kit.tests) c.command.ensures.text

pub returns-clause-view : goal.returns-clause-view
returns-clause-view g c settings kit =
    subst (λ (r : List ℕ × View). OnOk c.command.result (c.command.new.self.core.view ≡ r.1)) (reply_now settings _ c.args.self.now.session.core.view c.args.line.now kit.tests) c.command.ensures.view

pub returns-clause-cost : goal.returns-clause-cost
returns-clause-cost g c settings kit =
    subst (λ (n : ℕ). c.command.new.steps ≤ c.args.steps.now + n) (cost_now settings _ (line_kept c.args.self.now.session.core c.args.line.now) c.args.self.now.session.core.view c.args.line.now kit.tests) c.command.ensures.cost
