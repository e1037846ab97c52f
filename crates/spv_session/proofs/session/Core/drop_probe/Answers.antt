use Rattle.std.proofs.Common.{◌≡◌, ◌∙◌, ◌++◌, ◌∷◌, [], true, ap, rules, sym}
use Rattle.std.specs.Prelude.{is_some}
use Rattle.spv_hits.specs.Halts.{told_before}
use Rattle.spv_probe.specs.Kits.{place, tests_of}
use Rattle.spv_session.specs.View.{Viewing, without_probe}
use Rattle.spv_session.proofs.ProbeLemmas.{is_there, kit_same, kit_without, ok_there}
use Rattle.spv_session.proofs.session.Core.drop_probe.Goals as goal

pub returns-in_err-push-clause-kit : goal.returns-in_err-push-clause-kit
returns-in_err-push-clause-kit g c = λ settings kit.
    kit_same (λ b. (goal.Probe-dyn g (b.vtable, b.value)).tally b.value) (λ b. (goal.Probe-dyn g (b.vtable, b.value)).test b.value) settings c.args.self.now.view _ c.args.kit.now.boxes.items
    (ap (λ (x : Viewing). x.view.group) c.self.view_is) (c.in_err-push.ensures.items ∙ ap (λ (x : Viewing). x.view.dropped) c.self.view_is) kit

pub returns-clause-kit : goal.returns-clause-kit
returns-clause-kit g c = λ settings kit.
    let boxes = c.args.kit.now.boxes.items in
    let here : c.is_there.result ≡ true = search rules in
    let there : is_some (place boxes c.args.number) ≡ true = sym (is_there (λ b. (goal.Probe-dyn g (b.vtable, b.value)).test b.value) boxes c.args.number) ∙ sym c.is_there.ensures ∙ here in
    kit_same (λ b. (goal.Probe-dyn g (b.vtable, b.value)).tally b.value) (λ b. (goal.Probe-dyn g (b.vtable, b.value)).test b.value) settings (without_probe c.args.number c.args.self.now.view) _ c.drop_one-dropped.new.self.boxes.items
    (ap (λ (x : Viewing). x.view.group) c.self.view_is) (c.in_ok-push.ensures.items ∙ ap (λ (x : Viewing). x.view.dropped ++ c.args.number ∷ []) c.self.view_is)
    (kit_without (λ b. (goal.Probe-dyn g (b.vtable, b.value)).tally b.value) (λ b. (goal.Probe-dyn g (b.vtable, b.value)).test b.value) settings c.args.self.now.view boxes c.drop_one-dropped.new.self.boxes.items c.args.number kit
    (ok_there c.drop_one-dropped.result _ tt (record { code = 7 }) _ there c.drop_one-dropped.ensures.answer c.drop_one-dropped.ensures.ok)
    (ok_there c.drop_one-dropped.result _ tt (record { code = 7 }) _ there c.drop_one-dropped.ensures.answer c.drop_one-dropped.ensures.follows (tests_of (λ b. (goal.Probe-dyn g (b.vtable, b.value)).test b.value) boxes) (told_before c.args.self.now.view.group)))
