use Rattle.std.proofs.Common.{◌≡◌, ◌∙◌, Err, Ok, Some, ap, rules, subst, sym}
use Rattle.spv_base.specs.declared.values.Pointer.{Pointer as Reference}
use Rattle.spv_base.specs.declared.values.Value.{Value}
use Rattle.spv_types.specs.Laws.{AreSound}
use Rattle.spv_mem.specs.Memory.{Held as Memory, IsMemory}
use Rattle.spv_valid.specs.Acceptance.{Accepted}
use Rattle.spv_operands.specs.Operands.{shown}
use Rattle.spv_results.proofs.Exports.{sound_types}
use Rattle.spv_sites.specs.Sites.{first_of_three}
use Rattle.spv_accesses.specs.AtomicSites.{scalar, target}
use Rattle.spv_sites.specs.Effects.{sets}
use Rattle.spv_sites.specs.Fits.{StoreFits}
use Rattle.spv_sites.proofs.Exports.{outside_due}
use Rattle.spv_accesses.proofs.AtomicLemmas.{exchange_fits, value_width}
use Rattle.spv_accesses.proofs.AtomicSteps.{store_is, stores_by, takes_first, takes_ok, takes_target, takes_value}
use Rattle.spv_accesses.proofs.atomics.store.Goals as goal

pub returns-in_err-at-clause-due : goal.returns-in_err-at-clause-due
returns-in_err-at-clause-due c =
    let same : c.from_residual.result ≡ Err c.in_err-at.field-0.0 = search rules in
    outside_due c.args.site.now c.args.row.now (first_of_three c.args.site.now) c.from_residual.result c.in_err-at.field-0.0 (λ cause h. store_is c.args.site.now c.requires.action ∙ takes_first c.args.site.now stores_by cause h) c.in_err-at.ensures.value same

pub returns-in_err-value-clause-due : goal.returns-in_err-value-clause-due
returns-in_err-value-clause-due c =
    let same : c.from_residual-in_err-value.result ≡ Err c.in_err-value.field-0.0 = search rules in
    outside_due c.args.site.now c.args.row.now (scalar c.args.site.now 3) c.from_residual-in_err-value.result c.in_err-value.field-0.0 (λ cause h. store_is c.args.site.now c.requires.action ∙ takes_value c.args.site.now stores_by (shown c.in_ok-at.at) c.in_ok-at.ensures.value cause h) c.in_err-value.ensures.value same

pub returns-in_err-place-clause-due : goal.returns-in_err-place-clause-due
returns-in_err-place-clause-due c =
    let same : c.from_residual-in_err-place.result ≡ Err c.in_err-place.field-0.0 = search rules in
    outside_due c.args.site.now c.args.row.now (target c.args.site.now (shown c.in_ok-at.at)) c.from_residual-in_err-place.result c.in_err-place.field-0.0 (λ cause h. store_is c.args.site.now c.requires.action ∙ takes_target c.args.site.now stores_by (shown c.in_ok-at.at) c.in_ok-at.ensures.value c.in_ok-value.value cause c.in_ok-value.ensures.value h) c.in_err-place.ensures.target same

pub returns-clause-due : goal.returns-clause-due
returns-clause-due c =
    store_is c.args.site.now c.requires.action
    ∙ takes_ok c.args.site.now stores_by (shown c.in_ok-at.at) c.in_ok-at.ensures.value c.in_ok-value.value (c.in_ok-place.place, c.in_ok-place._old) c.in_ok-value.ensures.value c.in_ok-place.ensures.target
    ∙ ap (λ (v : Value). Ok (sets c.in_ok-place.place v)) (sym c.in_ok-put.ensures)
    ∙ ap (λ (q : Reference). Ok (sets q c.put.new.row)) (sym c.in_ok-store.ensures)

pub returns-clause-fits : goal.returns-clause-fits
returns-clause-fits c =
    let same : c.in_ok-value.value.width ≡ c.in_ok-place._old.width
    = value_width c.args.site.now (subst (λ (a : Accepted). AreSound a.types) c.accepted.ensures (sound_types c.accepted.result.now c.insts-insts.ensures.valid)) (c.requires.rule.0, c.requires.rule.1, c.requires.rule.2.0) (c.in_ok-place.place, c.in_ok-place._old) c.in_ok-place.ensures.is 3 c.in_ok-value.value c.requires.rule.2.1.0 c.in_ok-value.ensures.shape in
    record {
      store = subst (λ (q : Reference). StoreFits c.args.site.now.state c.args.site.now.inv (Some (q, c.put.new.row))) (sym c.in_ok-store.ensures)
          (exchange_fits c.args.site.now (c.in_ok-place.place, c.in_ok-place._old) c.in_ok-place.ensures.is (subst (λ (m : Memory). ∥ IsMemory m ∥₁) c.memory.ensures c.variables_are_shaped.ensures) c.in_ok-value.value c.put.new.row c.in_ok-put.ensures c.is_lane.ensures same);
      result = tt;
      control = c.requires.next;
      rooted = tt;
      passed = tt;
    }
