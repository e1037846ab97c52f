use Rattle.std.proofs.Common.{◌≡◌, ◌∙◌, sym, ap}
use Rattle.std.specs.Prelude.{is_some}
use Rattle.std.specs.List.{list_any}
use Rattle.spv_probe.proofs.FollowLemmas.{any_tests, follows_none}
use Rattle.spv_probe.proofs.kit.Kit.has_one.Goals as goal

pub returns-clause-one : goal.returns-clause-one
returns-clause-one g c =
    let here : c.any.result ≡ list_any is_some c.args.self.now.boxes.items = c.any.ensures ∙ ap (λ xs. list_any is_some xs) c.deref.ensures.value in
    here ∙ sym (any_tests (λ b. (goal.Probe-dyn g (b.vtable, b.value)).tally b.value) (λ b. (goal.Probe-dyn g (b.vtable, b.value)).test b.value) c.args.self.now.boxes.items)

pub returns-clause-none : goal.returns-clause-none
returns-clause-none g c e events =
    let here : c.any.result ≡ list_any is_some c.args.self.now.boxes.items = c.any.ensures ∙ ap (λ xs. list_any is_some xs) c.deref.ensures.value in
    follows_none (λ b. (goal.Probe-dyn g (b.vtable, b.value)).tally b.value) (λ b. (goal.Probe-dyn g (b.vtable, b.value)).test b.value) c.args.self.now.boxes.items (sym here ∙ e) events
