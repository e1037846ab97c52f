use Rattle.std.proofs.Common.{◌≡◌, ◌∙◌, ap, rules, subst, sym}
use Rattle.spv_base.specs.declared.values.Pointer.{Pointer as Reference}
use Rattle.spv_actions.specs.Below.spv_mem.specs.Memory.{MayStore}
use Rattle.spv_sites.specs.Targets.{leading_to}
use Rattle.spv_machine.proofs.applying.put_at.Goals as goal

pub store-requires-clause-may : goal.store-requires-clause-may
store-requires-clause-may c =
    let there : c.args.target.now ≡ c.whole-pointer.result = sym c.target.view_is ∙ ap leading_to c.in-Whole.is ∙ sym c.whole-pointer.ensures in
    subst (λ (q : Reference). ∥ MayStore c.args.recorded.now.state.memory c.args.inv q c.args.row.now ∥₁) there c.requires.fits.1

pub store-requires-in-Part-clause-may : goal.store-requires-in-Part-clause-may
store-requires-in-Part-clause-may c =
    let lent : c.in-Part.pointer.value ≡ c.deref.result.now = search rules in
    let there : c.args.target.now ≡ c.deref.result.now = sym c.target.view_is ∙ ap leading_to c.in-Part.is ∙ lent in
    subst (λ (q : Reference). ∥ MayStore c.args.recorded.now.state.memory c.args.inv q c.args.row.now ∥₁) there c.requires.fits.1
