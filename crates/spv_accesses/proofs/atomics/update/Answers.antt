use Rattle.std.proofs.Common.{◌≡◌, ◌∙◌, Err, Ok, ap, rules, subst, sym}
use Rattle.spv_base.specs.Cell.{Cell}
use Rattle.spv_types.specs.Laws.{AreSound}
use Rattle.spv_valid.specs.Acceptance.{Accepted}
use Rattle.spv_operands.specs.Operands.{shown}
use Rattle.spv_results.proofs.Exports.{sound_types}
use Rattle.spv_sites.specs.Sites.{first_of_three}
use Rattle.spv_accesses.specs.AtomicSites.{scalar, target}
use Rattle.spv_sites.specs.Atomics.{atomic_row, exchanges}
use Rattle.spv_sites.specs.Effects.{Effect}
use Rattle.spv_sites.proofs.Exports.{outside_due}
use Rattle.spv_accesses.proofs.AtomicLemmas.{value_width}
use Rattle.spv_accesses.proofs.AtomicSteps.{takes_first, takes_ok, takes_target, takes_value, update_is, updates_by}
use Rattle.spv_accesses.proofs.atomics.update.Goals as goal

pub returns-in_err-at-clause-due : goal.returns-in_err-at-clause-due
returns-in_err-at-clause-due c =
    let same : c.from_residual.result ≡ Err c.in_err-at.field-0.0 = search rules in
    outside_due c.args.site.now c.args.row.now (first_of_three c.args.site.now) c.from_residual.result c.in_err-at.field-0.0 (λ cause h. update_is c.args.site.now c.args.operation c.requires.action c.requires.updates ∙ takes_first c.args.site.now (updates_by (atomic_row c.args.operation)) cause h) c.in_err-at.ensures.value same

pub returns-in_err-value-clause-due : goal.returns-in_err-value-clause-due
returns-in_err-value-clause-due c =
    let same : c.from_residual-in_err-value.result ≡ Err c.in_err-value.field-0.0 = search rules in
    outside_due c.args.site.now c.args.row.now (scalar c.args.site.now 3) c.from_residual-in_err-value.result c.in_err-value.field-0.0 (λ cause h. update_is c.args.site.now c.args.operation c.requires.action c.requires.updates ∙ takes_value c.args.site.now (updates_by (atomic_row c.args.operation)) (shown c.in_ok-at.at) c.in_ok-at.ensures.value cause h) c.in_err-value.ensures.value same

pub returns-in_err-target-clause-due : goal.returns-in_err-target-clause-due
returns-in_err-target-clause-due c =
    let same : c.from_residual-in_err-target.result ≡ Err c.in_err-target.field-0.0 = search rules in
    outside_due c.args.site.now c.args.row.now (target c.args.site.now (shown c.in_ok-at.at)) c.from_residual-in_err-target.result c.in_err-target.field-0.0 (λ cause h. update_is c.args.site.now c.args.operation c.requires.action c.requires.updates ∙ takes_target c.args.site.now (updates_by (atomic_row c.args.operation)) (shown c.in_ok-at.at) c.in_ok-at.ensures.value c.in_ok-value.value cause c.in_ok-value.ensures.value h) c.in_err-target.ensures.target same

pub updated_cell-new-requires-clause-value : goal.updated_cell-new-requires-clause-value
updated_cell-new-requires-clause-value c =
    value_width c.args.site.now (subst (λ (a : Accepted). AreSound a.types) c.accepted.ensures (sound_types c.accepted.result.now c.insts-insts.ensures.valid)) (c.requires.rule.0, c.requires.rule.1, c.requires.rule.2.0) c.in_ok-target.target c.in_ok-target.ensures.is 3 c.in_ok-value.value c.requires.rule.2.1.1.0 c.in_ok-value.ensures.shape

pub returns-clause-due : goal.returns-clause-due
returns-clause-due c =
    update_is c.args.site.now c.args.operation c.requires.action c.requires.updates
    ∙ takes_ok c.args.site.now (updates_by (atomic_row c.args.operation)) (shown c.in_ok-at.at) c.in_ok-at.ensures.value c.in_ok-value.value c.in_ok-target.target c.in_ok-value.ensures.value c.in_ok-target.ensures.target
    ∙ ap (λ (n : Cell). Ok (exchanges c.in_ok-target.target.0 n c.in_ok-target.target.1)) (sym c.updated_cell-new.ensures.lane)
    ∙ ap (λ (e : Effect). Ok e) (sym c.in_ok-exchange.ensures.shown)
