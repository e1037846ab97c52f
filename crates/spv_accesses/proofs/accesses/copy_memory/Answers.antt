use Rattle.std.proofs.Common.{◌≡◌, ◌∙◌, Err, Ok, Some, ap, rules, subst, sym}
use Rattle.spv_base.specs.declared.values.Value.{Value}
use Rattle.spv_types.specs.Laws.{AreSound}
use Rattle.spv_mem.specs.Memory.{Held as Memory, IsMemory}
use Rattle.spv_valid.specs.Acceptance.{Accepted}
use Rattle.spv_valid.specs.Validity.{IsValid}
use Rattle.spv_operands.specs.Operands.{shown}
use Rattle.spv_results.proofs.Exports.{sound_types}
use Rattle.spv_sites.specs.Fits.{StoreFits}
use Rattle.spv_sites.specs.Sites.{part_of, values}
use Rattle.spv_sites.proofs.Exports.{no_value_due, outside_due}
use Rattle.spv_accesses.proofs.AccessLemmas.{stores}
use Rattle.spv_accesses.proofs.CopyLemmas.{copy_fits, copy_gives, copy_missing, copy_nowhere, copy_outside, copy_without}
use Rattle.spv_accesses.proofs.accesses.copy_memory.Goals as goal

pub returns-in_err-to-clause-due : goal.returns-in_err-to-clause-due
returns-in_err-to-clause-due c =
    let same : c.from_residual.result ≡ Err c.in_err-to.field-0.0 = search rules in
    no_value_due c.args.site.now c.args.row.now (values c.args.site.now 0) c.from_residual.result c.in_err-to.field-0.0 (copy_missing c.args.site.now c.requires) c.in_err-to.ensures.value same

pub returns-in_err-source-clause-due : goal.returns-in_err-source-clause-due
returns-in_err-source-clause-due c =
    let same : c.from_residual-in_err-source.result ≡ Err c.in_err-source.field-0.0 = search rules in
    no_value_due c.args.site.now c.args.row.now (values c.args.site.now 1) c.from_residual-in_err-source.result c.in_err-source.field-0.0 (copy_without c.args.site.now (shown c.in_ok-to.to) c.requires c.in_ok-to.ensures.value) c.in_err-source.ensures.value same

pub returns-in_err-_part-clause-due : goal.returns-in_err-_part-clause-due
returns-in_err-_part-clause-due c =
    let same : c.from_residual-in_err-_part.result ≡ Err c.in_err-_part.field-0.0 = search rules in
    let to = shown c.in_ok-to.to in
    let from = shown c.in_ok-source.source in
    outside_due c.args.site.now c.args.row.now (part_of c.args.site.now to) c.from_residual-in_err-_part.result c.in_err-_part.field-0.0
    (λ cause outside. copy_nowhere c.args.site.now to from cause c.requires c.in_ok-to.ensures.value c.in_ok-source.ensures.value outside) c.in_err-_part.ensures same

pub returns-in_err-part-clause-due : goal.returns-in_err-part-clause-due
returns-in_err-part-clause-due c =
    let same : c.from_residual-in_err-part.result ≡ Err c.in_err-part.field-0.0 = search rules in
    let to = shown c.in_ok-to.to in
    let from = shown c.in_ok-source.source in
    outside_due c.args.site.now c.args.row.now (part_of c.args.site.now from) c.from_residual-in_err-part.result c.in_err-part.field-0.0
    (λ cause outside. copy_outside c.args.site.now to from c.in_ok-_part._part cause c.requires c.in_ok-to.ensures.value c.in_ok-source.ensures.value c.in_ok-_part.ensures outside) c.in_err-part.ensures same

pub returns-clause-due : goal.returns-clause-due
returns-clause-due c =
    copy_gives c.args.site.now (shown c.in_ok-to.to) (shown c.in_ok-source.source) c.in_ok-_part._part c.in_ok-part.field-0 c.in_ok-place.place c.requires c.in_ok-to.ensures.value
    c.in_ok-source.ensures.value c.in_ok-_part.ensures c.in_ok-part.ensures c.in_ok-place.ensures
    ∙ ap (λ (v : Value). Ok (stores c.in_ok-place.place v)) (sym c.in_ok-copied.ensures)

pub returns-clause-fits : goal.returns-clause-fits
returns-clause-fits c =
    let memory : ∥ IsMemory c.args.site.now.state.memory ∥₁ = subst (λ (m : Memory). ∥ IsMemory m ∥₁) c.memory.ensures c.variables_are_shaped.ensures in
    let sound = subst (λ (a : Accepted). AreSound a.types) c.accepted.ensures (sound_types c.accepted.result.now c.insts-insts.ensures.valid) in
    let valid = subst (λ (a : Accepted). ∥ IsValid a ∥₁) c.accepted.ensures c.insts-insts.ensures.valid in
    let fits = copy_fits c.args.site.now sound valid c.is_reached.ensures c.copy_memory_is_kept.ensures.rule (shown c.in_ok-to.to) (shown c.in_ok-source.source) c.in_ok-to.ensures.shape c.in_ok-source.ensures.shape
    c.in_ok-_part._part c.in_ok-part.field-0 c.in_ok-place.place memory c.in_ok-_part.ensures c.in_ok-part.ensures c.in_ok-place.ensures in
    record {
      store = subst (λ (v : Value). StoreFits c.args.site.now.state c.args.site.now.inv (Some (c.in_ok-place.place, v))) (sym c.in_ok-copied.ensures) fits;
      result = tt;
      control = c.copy_memory_is_kept.ensures.next;
      rooted = tt;
      passed = tt;
    }
