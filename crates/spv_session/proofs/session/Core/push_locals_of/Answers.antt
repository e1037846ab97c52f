use Rattle.std.proofs.Common.{◌∙◌, ap, Some}
use Rattle.std.specs.Prelude.{option_copied}
use Rattle.spv_dbg.specs.Tables.{Tables}
use Rattle.spv_paths.specs.Variables.{locals}
use Rattle.spv_search.specs.Keys.{tables_in}
use Rattle.spv_session.specs.View.{Viewing}
use Rattle.spv_session.proofs.SightLemmas.{lines_told, on_ok}
use Rattle.spv_session.proofs.session.Core.push_locals_of.Goals as goal

pub returns : goal.returns
returns c = on_ok c.push_variables.result _ _ (λ h.
    lines_told c.args.self.now.view c.sight-sight.result.tables.now c.sight-sight.result.memory.now c.sight-sight.result.inv c.sight-sight.result.stack.now (option_copied c.sight-sight.result.frame)
    c.sight-sight.ensures.tables c.sight-sight.ensures.memory c.sight-sight.ensures.inv c.sight-sight.ensures.stack
    (Some c.args.frame.now) _ _ c.args.text.now.items c.push_variables.new.text.items (ap option_copied c.sight-sight.ensures.frame)
    (c.as_slice.ensures ∙ c.in_ok-ids.ensures ∙ ap (λ (t : Tables). locals t c.args.frame.now.scope) c.self.invariant.2
    ∙ ap (λ (x : Viewing). locals (tables_in x.view.group) c.args.frame.now.scope) c.self.view_is) h) c.push_variables.ensures
