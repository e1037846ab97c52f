use Rattle.std.proofs.Common.{◌∙◌, sym, ap}
use Rattle.std.specs.Prelude.{option_copied}
use Rattle.spv_paths.specs.Kept.{kept_answer, kept_named}
use Rattle.spv_session.proofs.SightLemmas.{on_ok, path_told}
use Rattle.spv_session.proofs.session.Core.push_part.Goals as goal

pub returns-in-Ok : goal.returns-in-Ok
returns-in-Ok c = on_ok c.push_path.result _ _ (λ h.
    path_told c.args.self.now.view c.sight-sight.result.tables.now c.sight-sight.result.memory.now c.sight-sight.result.inv c.sight-sight.result.stack.now (option_copied c.sight-sight.result.frame)
    c.sight-sight.ensures.tables c.sight-sight.ensures.memory c.sight-sight.ensures.inv c.sight-sight.ensures.stack
    c.args.path.now c.args.name.now c.args.parts.now (kept_named c.in-Ok.named) c.args.text.now.items c.push_path.new.text.items
    (ap option_copied c.sight-sight.ensures.frame ∙ c.requires) (sym (ap kept_answer c.in-Ok.is) ∙ c.in_ok-refusal.ensures) h) c.push_path.ensures
