use Rattle.std.proofs.Common.{◌≡◌, ◌∙◌, Err, Ok, ap, rules, subst, sym}
use Rattle.spv_base.specs.Cell.{Cell}
use Rattle.spv_types.specs.Laws.{AreSound}
use Rattle.spv_valid.specs.Acceptance.{Accepted}
use Rattle.spv_operands.specs.Operands.{shown}
use Rattle.spv_results.proofs.Exports.{sound_types}
use Rattle.spv_sites.specs.Sites.{first_of_three}
use Rattle.spv_accesses.specs.AtomicSites.{scalar, target}
use Rattle.spv_sites.specs.Atomics.{exchanges}
use Rattle.spv_sites.specs.Effects.{Effect}
use Rattle.spv_sites.proofs.Exports.{outside_due, operand}
use Rattle.spv_accesses.proofs.AtomicLemmas.{integer_at, value_width}
use Rattle.spv_accesses.proofs.AtomicSteps.{compare_is, compares_comparator, compares_first, compares_ok, compares_semantics, compares_target, compares_value, found_is, swaps_by}
use Rattle.spv_accesses.proofs.atomics.compare_exchange.Goals as goal

pub returns-in_err-at-clause-due : goal.returns-in_err-at-clause-due
returns-in_err-at-clause-due c =
    let same : c.from_residual.result ≡ Err c.in_err-at.field-0.0 = search rules in
    outside_due c.args.site.now c.args.row.now (first_of_three c.args.site.now) c.from_residual.result c.in_err-at.field-0.0 (λ cause h. compare_is c.args.site.now c.requires.action ∙ compares_first c.args.site.now swaps_by cause h) c.in_err-at.ensures.value same

pub returns-in_err-_unequal-clause-due : goal.returns-in_err-_unequal-clause-due
returns-in_err-_unequal-clause-due c =
    let same : c.from_residual-in_err-_unequal.result ≡ Err c.in_err-_unequal.field-0.0 = search rules in
    outside_due c.args.site.now c.args.row.now (operand c.args.site.now 3) c.from_residual-in_err-_unequal.result c.in_err-_unequal.field-0.0 (λ cause h. compare_is c.args.site.now c.requires.action ∙ compares_semantics c.args.site.now swaps_by (shown c.in_ok-at.at) c.in_ok-at.ensures.value cause h) (found_is c.args.site.now 3 (Err c.in_err-_unequal.field-0.0) c.in_err-_unequal.ensures.value) same

pub returns-in_err-value-clause-due : goal.returns-in_err-value-clause-due
returns-in_err-value-clause-due c =
    let same : c.from_residual-in_err-value.result ≡ Err c.in_err-value.field-0.0 = search rules in
    outside_due c.args.site.now c.args.row.now (scalar c.args.site.now 4) c.from_residual-in_err-value.result c.in_err-value.field-0.0 (λ cause h. compare_is c.args.site.now c.requires.action ∙ compares_value c.args.site.now swaps_by (shown c.in_ok-at.at) c.in_ok-at.ensures.value (shown c.in_ok-_unequal._unequal) (found_is c.args.site.now 3 (Ok (shown c.in_ok-_unequal._unequal)) c.in_ok-_unequal.ensures.value) cause h) c.in_err-value.ensures.value same

pub returns-in_err-comparator-clause-due : goal.returns-in_err-comparator-clause-due
returns-in_err-comparator-clause-due c =
    let same : c.from_residual-in_err-comparator.result ≡ Err c.in_err-comparator.field-0.0 = search rules in
    outside_due c.args.site.now c.args.row.now (scalar c.args.site.now 5) c.from_residual-in_err-comparator.result c.in_err-comparator.field-0.0 (λ cause h. compare_is c.args.site.now c.requires.action ∙ compares_comparator c.args.site.now swaps_by (shown c.in_ok-at.at) c.in_ok-at.ensures.value (shown c.in_ok-_unequal._unequal) (found_is c.args.site.now 3 (Ok (shown c.in_ok-_unequal._unequal)) c.in_ok-_unequal.ensures.value) c.in_ok-value.value c.in_ok-value.ensures.value cause h) c.in_err-comparator.ensures.value same

pub returns-in_err-target-clause-due : goal.returns-in_err-target-clause-due
returns-in_err-target-clause-due c =
    let same : c.from_residual-in_err-target.result ≡ Err c.in_err-target.field-0.0 = search rules in
    outside_due c.args.site.now c.args.row.now (target c.args.site.now (shown c.in_ok-at.at)) c.from_residual-in_err-target.result c.in_err-target.field-0.0 (λ cause h. compare_is c.args.site.now c.requires.action ∙ compares_target c.args.site.now swaps_by (shown c.in_ok-at.at) c.in_ok-at.ensures.value (shown c.in_ok-_unequal._unequal) (found_is c.args.site.now 3 (Ok (shown c.in_ok-_unequal._unequal)) c.in_ok-_unequal.ensures.value) c.in_ok-value.value c.in_ok-value.ensures.value c.in_ok-comparator.comparator cause c.in_ok-comparator.ensures.value h) c.in_err-target.ensures.target same

pub scalar-requires : goal.scalar-requires
scalar-requires c =
    integer_at c.args.site.now.program.accepted c.args.site.now.inst 4 (c.requires.rule.0, c.requires.rule.1, c.requires.rule.2.0) c.requires.rule.2.1.1.0.0

pub scalar-requires-2 : goal.scalar-requires-2
scalar-requires-2 c =
    integer_at c.args.site.now.program.accepted c.args.site.now.inst 5 (c.requires.rule.0, c.requires.rule.1, c.requires.rule.2.0) c.requires.rule.2.1.1.0.1

pub compared_cell-new-requires : goal.compared_cell-new-requires
compared_cell-new-requires c =
    value_width c.args.site.now (subst (λ (a : Accepted). AreSound a.types) c.accepted.ensures (sound_types c.accepted.result.now c.insts-insts.ensures.valid)) (c.requires.rule.0, c.requires.rule.1, c.requires.rule.2.0) c.in_ok-target.target c.in_ok-target.ensures.is 4 c.in_ok-value.value c.requires.rule.2.1.1.0.0 c.in_ok-value.ensures.shape

pub returns-clause-due : goal.returns-clause-due
returns-clause-due c =
    compare_is c.args.site.now c.requires.action
    ∙ compares_ok c.args.site.now swaps_by (shown c.in_ok-at.at) c.in_ok-at.ensures.value (shown c.in_ok-_unequal._unequal) (found_is c.args.site.now 3 (Ok (shown c.in_ok-_unequal._unequal)) c.in_ok-_unequal.ensures.value) c.in_ok-value.value c.in_ok-value.ensures.value c.in_ok-comparator.comparator c.in_ok-target.target c.in_ok-comparator.ensures.value c.in_ok-target.ensures.target
    ∙ ap (λ (n : Cell). Ok (exchanges c.in_ok-target.target.0 n c.in_ok-target.target.1)) (sym c.compared_cell-new.ensures.lane)
    ∙ ap (λ (e : Effect). Ok e) (sym c.in_ok-exchange.ensures.shown)
