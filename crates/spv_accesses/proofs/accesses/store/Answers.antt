use Rattle.std.proofs.Common.{◌≡◌, ◌∙◌, Err, Ok, ap, rules, subst, sym}
use Rattle.spv_base.specs.declared.values.Value.{Value}
use Rattle.spv_types.specs.Laws.{AreSound}
use Rattle.spv_valid.specs.Acceptance.{Accepted}
use Rattle.spv_valid.specs.Validity.{IsValid}
use Rattle.spv_operands.specs.Operands.{shown}
use Rattle.spv_results.specs.Operands.{IsOperand}
use Rattle.spv_results.proofs.Exports.{sound_types}
use Rattle.spv_sites.specs.Sites.{part_of, values}
use Rattle.spv_sites.proofs.Exports.{no_value_due, outside_due, storing}
use Rattle.spv_accesses.proofs.AccessLemmas.{store_fits, store_gives, store_missing, store_outside, store_without, stores}
use Rattle.spv_accesses.proofs.accesses.store.Goals as goal

pub store_is_kept-requires : goal.store_is_kept-requires
store_is_kept-requires c = storing c.args.site.now.inst c.requires

pub returns-in_err-at-clause-due : goal.returns-in_err-at-clause-due
returns-in_err-at-clause-due c =
    let same : c.from_residual.result ≡ Err c.in_err-at.field-0.0 = search rules in
    no_value_due c.args.site.now c.args.row.now (values c.args.site.now 0) c.from_residual.result c.in_err-at.field-0.0 (store_missing c.args.site.now c.requires) c.in_err-at.ensures.value same

pub returns-in_err-object-clause-due : goal.returns-in_err-object-clause-due
returns-in_err-object-clause-due c =
    let same : c.from_residual-in_err-object.result ≡ Err c.in_err-object.field-0.0 = search rules in
    no_value_due c.args.site.now c.args.row.now (values c.args.site.now 1) c.from_residual-in_err-object.result c.in_err-object.field-0.0 (store_without c.args.site.now (shown c.in_ok-at.at) c.requires c.in_ok-at.ensures.value) c.in_err-object.ensures.value same

pub returns-in_err-_part-clause-due : goal.returns-in_err-_part-clause-due
returns-in_err-_part-clause-due c =
    let same : c.from_residual-in_err-_part.result ≡ Err c.in_err-_part.field-0.0 = search rules in
    let at = shown c.in_ok-at.at in
    outside_due c.args.site.now c.args.row.now (part_of c.args.site.now at) c.from_residual-in_err-_part.result c.in_err-_part.field-0.0
    (λ cause outside. store_outside c.args.site.now at c.in_ok-object.object cause c.requires c.in_ok-at.ensures.value c.in_ok-object.ensures.value outside) c.in_err-_part.ensures same

pub returns-clause-due : goal.returns-clause-due
returns-clause-due c =
    let held : c.copied.new.row ≡ c.in_ok-object.object = search rules in
    store_gives c.args.site.now (shown c.in_ok-at.at) c.in_ok-object.object c.in_ok-_part._part c.in_ok-place.place c.requires c.in_ok-at.ensures.value c.in_ok-object.ensures.value c.in_ok-place.ensures c.in_ok-_part.ensures
    ∙ ap (λ (v : Value). Ok (stores c.in_ok-place.place v)) (sym held)

pub returns-clause-fits : goal.returns-clause-fits
returns-clause-fits c =
    let held : c.copied.new.row ≡ c.in_ok-object.object = search rules in
    let own : IsOperand c.args.site.now.program.accepted c.args.site.now.inst 1 c.copied.new.row = subst (IsOperand c.args.site.now.program.accepted c.args.site.now.inst 1) (sym held) c.in_ok-object.ensures.shape in
    record {
      store = store_fits c.args.site.now (subst (λ (a : Accepted). AreSound a.types) c.accepted.ensures (sound_types c.accepted.result.now c.insts-insts.ensures.valid)) (subst (λ (a : Accepted). ∥ IsValid a ∥₁) c.accepted.ensures c.insts-insts.ensures.valid) c.is_reached.ensures (shown c.in_ok-at.at) c.in_ok-at.ensures.shape c.in_ok-_part._part c.copied.new.row c.in_ok-place.place c.store_is_kept.ensures.rule c.in_ok-_part.ensures c.in_ok-place.ensures own;
      result = tt;
      control = c.store_is_kept.ensures.next;
      rooted = tt;
      passed = tt;
    }
