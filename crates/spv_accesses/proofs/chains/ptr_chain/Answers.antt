use Rattle.std.proofs.Common.{◌≡◌, ◌∙◌, Err, Ok, ap, rules, subst, sym}
use Rattle.spv_base.specs.declared.values.Pointer.{Pointer as Reference}
use Rattle.spv_base.specs.declared.values.Value.{Ptr}
use Rattle.spv_types.specs.Laws.{AreSound}
use Rattle.spv_valid.specs.Acceptance.{Accepted}
use Rattle.spv_valid.specs.Validity.{IsValid}
use Rattle.spv_operands.specs.Operands.{shown}
use Rattle.spv_results.specs.Operands.{known}
use Rattle.spv_results.proofs.Exports.{sound_types}
use Rattle.spv_state.specs.State.{frames_of}
use Rattle.spv_sites.specs.Chains.{indexes_from}
use Rattle.spv_sites.specs.Effects.{gives}
use Rattle.spv_sites.specs.Fits.{Fits}
use Rattle.spv_sites.specs.Sites.{values}
use Rattle.spv_sites.proofs.Exports.{no_value_due, outside_due, site_root}
use Rattle.spv_accesses.specs.AtomicSites.{scalar}
use Rattle.spv_accesses.specs.PointerSites.{moved_pointer}
use Rattle.spv_accesses.proofs.ChainLemmas.{indexes_data}
use Rattle.spv_accesses.proofs.ChainRoots.{base_typed, ptr_rooted}
use Rattle.spv_accesses.proofs.MovedLemmas.{moved_fails, moved_gives, moved_missing, moved_without, moved_without_element}
use Rattle.spv_accesses.proofs.MovedShapes.{moved_fits}
use Rattle.spv_accesses.proofs.chains.ptr_chain.Goals as goal

pub scalar-requires : goal.scalar-requires
scalar-requires c = let kept = c.ptr_chain_is_kept.ensures.rule in kept.2.1.0

pub indexes_from-requires : goal.indexes_from-requires
indexes_from-requires c =
    let kept = c.ptr_chain_is_kept.ensures.rule in indexes_data c.args.site.now.program.accepted c.args.site.now.inst 2 kept.0 kept.2.1.1

pub returns-in_err-base-clause-due : goal.returns-in_err-base-clause-due
returns-in_err-base-clause-due c = λ v.
    let same : c.from_residual.result ≡ Err c.in_err-base.field-0.0 = search rules in
    no_value_due c.args.site.now v (values c.args.site.now 0) c.from_residual.result c.in_err-base.field-0.0 (moved_missing c.args.site.now c.requires) c.in_err-base.ensures.value same

pub returns-in_err-element-clause-due : goal.returns-in_err-element-clause-due
returns-in_err-element-clause-due c = λ v.
    let same : c.from_residual-in_err-element.result ≡ Err c.in_err-element.field-0.0 = search rules in
    outside_due c.args.site.now v (scalar c.args.site.now 1) c.from_residual-in_err-element.result c.in_err-element.field-0.0
    (λ cause none. moved_without_element c.args.site.now (shown c.in_ok-base.base) c.requires c.in_ok-base.ensures.value cause none) c.in_err-element.ensures.value same

pub returns-in_err-indexes-clause-due : goal.returns-in_err-indexes-clause-due
returns-in_err-indexes-clause-due c = λ v.
    let same : c.from_residual-in_err-indexes.result ≡ Err c.in_err-indexes.field-0.0 = search rules in
    outside_due c.args.site.now v (indexes_from 2 (values c.args.site.now) c.args.site.now.inst) c.from_residual-in_err-indexes.result c.in_err-indexes.field-0.0
    (λ cause none. moved_without c.args.site.now (shown c.in_ok-base.base) c.requires c.in_ok-base.ensures.value c.in_ok-element.element c.in_ok-element.ensures.value cause none) c.in_err-indexes.ensures same

pub returns-in_err-pointer-clause-due : goal.returns-in_err-pointer-clause-due
returns-in_err-pointer-clause-due c = λ v.
    let same : c.from_residual-in_err-pointer.result ≡ Err c.in_err-pointer.field-0.0 = search rules in
    let at = shown c.in_ok-base.base in
    let cells : c.as_slice.result.now ≡ c.in_ok-indexes.indexes.items = search rules in
    outside_due c.args.site.now v (moved_pointer c.args.site.now at c.in_ok-element.element c.as_slice.result.now) c.from_residual-in_err-pointer.result c.in_err-pointer.field-0.0
    (λ cause fails. moved_fails c.args.site.now at c.requires c.in_ok-base.ensures.value c.in_ok-element.element c.in_ok-element.ensures.value c.as_slice.result.now (c.in_ok-indexes.ensures ∙ ap Ok (sym cells)) cause fails)
    c.in_err-pointer.ensures same

pub returns-clause-due : goal.returns-clause-due
returns-clause-due c = λ v.
    let cells : c.as_slice.result.now ≡ c.in_ok-indexes.indexes.items = search rules in
    moved_gives c.args.site.now (shown c.in_ok-base.base) c.requires c.in_ok-base.ensures.value c.in_ok-element.element c.in_ok-element.ensures.value c.as_slice.result.now
    (c.in_ok-indexes.ensures ∙ ap Ok (sym cells)) c.in_ok-pointer.pointer c.in_ok-pointer.ensures
    ∙ ap (λ (q : Reference). Ok (gives (Ptr q))) (sym c.in_ok-boxed.ensures.ok)

pub returns-clause-fits : goal.returns-clause-fits
returns-clause-fits c = λ v.
    let x = c.args.site.now in
    let base = shown c.in_ok-base.base in
    let kept = c.ptr_chain_is_kept.ensures.rule in
    let cells : c.as_slice.result.now ≡ c.in_ok-indexes.indexes.items = search rules in
    let sound = subst (λ (a : Accepted). AreSound a.types) c.accepted.ensures (sound_types c.accepted.result.now c.insts-insts.ensures.valid) in
    let valid = subst (λ (a : Accepted). ∥ IsValid a ∥₁) c.accepted.ensures c.insts-insts.ensures.valid in
    let fits = moved_fits c.operands_have_shapes.ensures.values c.operands_have_shapes.ensures.pointers c.constants_are_meant.ensures c.args.site.now c.accepted.result.now c.accepted.ensures c.insts-insts.ensures.accepted sound valid
    c.is_reached.ensures kept base c.in_ok-base.ensures.shape c.in_ok-element.element c.as_slice.result.now (c.in_ok-indexes.ensures ∙ ap Ok (sym cells)) c.in_ok-pointer.pointer c.in_ok-pointer.ensures in
    let type = base_typed (known x.program.accepted) x.inst kept.0 kept.1 in
    let rooted = ptr_rooted x.program.accepted (frames_of x.state x.inv) x.state.memory base c.in_ok-element.element c.as_slice.result.now c.in_ok-pointer.pointer
    (λ q is. site_root x 0 type.0 base q c.accepted.result.now c.accepted.ensures c.insts-insts.ensures.accepted c.insts-insts.ensures.valid c.is_reached.ensures c.in_ok-base.ensures.value type.1 is) c.in_ok-pointer.ensures in
    subst (λ (q : Reference). Fits x.program x.state x.inv x.inst (gives (Ptr q))) (sym c.in_ok-boxed.ensures.ok)
    (record { store = tt; result = fits; control = c.ptr_chain_is_kept.ensures.next; rooted = rooted; passed = tt })
