use Rattle.std.proofs.Common.{◌∙◌, ℕ, sym, ap}
use Rattle.spv_paths.specs.Kept.{kept_answer, saturated_answer}
use Rattle.spv_paths.specs.Paths.{part_due}
use Rattle.spv_session.proofs.SightLemmas.{exact_answer}
use Rattle.spv_session.proofs.sights.Sight.part.Goals as goal

pub returns-in_ok-exact-in-Ok : goal.returns-in_ok-exact-in-Ok
returns-in_ok-exact-in-Ok c =
    exact_answer _ c.in-Ok.named c.in_ok-exact-in-Ok.field-0
    (sym (ap kept_answer c.in-Ok.is) ∙ c.part_of.ensures ∙ ap (λ (n : ℕ). saturated_answer (part_due c.args.self.now.tables.now c.args.id n c.args.parts.now)) c.in_ok-size.ensures)
    c.in_ok-exact-in-Ok.ensures
