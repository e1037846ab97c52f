use Rattle.std.proofs.Common.{◌∙◌, ap}
use Rattle.std.specs.Prelude.{option_copied}
use Rattle.spv_paths.specs.Variables.{Variables, globals}
use Rattle.spv_search.specs.Keys.{tables_in}
use Rattle.spv_session.specs.View.{Viewing}
use Rattle.spv_session.specs.Variables.{selected}
use Rattle.spv_session.proofs.SightLemmas.{lines_told, on_ok}
use Rattle.spv_session.proofs.session.Core.push_globals.Goals as goal

pub returns : goal.returns
returns c = on_ok c.push_variables.result _ _ (λ h.
    lines_told c.args.self.now.view c.sight.result.tables.now c.sight.result.memory.now c.sight.result.inv c.sight.result.stack.now (option_copied c.sight.result.frame)
    c.sight.ensures.tables c.sight.ensures.memory c.sight.ensures.inv c.sight.ensures.stack
    (selected c.args.self.now.view) _ _ c.args.text.now.items c.push_variables.new.text.items
    (ap option_copied c.sight.ensures.frame ∙ c.as_ref.ensures.value ∙ c.in_ok-frame.ensures)
    (c.globals.ensures ∙ ap (λ (x : Variables). x.globals) c.self.invariant.4 ∙ ap (λ (x : Viewing). globals (tables_in x.view.group)) c.self.view_is) h) c.push_variables.ensures
