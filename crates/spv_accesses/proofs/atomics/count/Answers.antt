use Rattle.std.proofs.Common.{◌≡◌, ◌∙◌, Err, Ok, ap, rules, sym}
use Rattle.spv_base.specs.Cell.{Cell}
use Rattle.spv_operands.specs.Operands.{shown}
use Rattle.spv_sites.specs.Sites.{first_of_three}
use Rattle.spv_accesses.specs.AtomicSites.{counted_cell, target}
use Rattle.spv_sites.specs.Atomics.{atomic_row, exchanges}
use Rattle.spv_sites.specs.Effects.{Effect}
use Rattle.spv_sites.proofs.Exports.{outside_due}
use Rattle.spv_accesses.proofs.AtomicSteps.{count_is, exchanges_by, reads_first, reads_ok, reads_target}
use Rattle.spv_accesses.proofs.atomics.count.Goals as goal

pub returns-in_err-at-clause-due : goal.returns-in_err-at-clause-due
returns-in_err-at-clause-due c =
    let same : c.from_residual.result ≡ Err c.in_err-at.field-0.0 = search rules in
    outside_due c.args.site.now c.args.row.now (first_of_three c.args.site.now) c.from_residual.result c.in_err-at.field-0.0 (λ cause h. count_is c.args.site.now c.args.operation c.requires.action c.requires.counts ∙ reads_first c.args.site.now (exchanges_by (counted_cell (atomic_row c.args.operation))) cause h) c.in_err-at.ensures.value same

pub returns-in_err-target-clause-due : goal.returns-in_err-target-clause-due
returns-in_err-target-clause-due c =
    let same : c.from_residual-in_err-target.result ≡ Err c.in_err-target.field-0.0 = search rules in
    outside_due c.args.site.now c.args.row.now (target c.args.site.now (shown c.in_ok-at.at)) c.from_residual-in_err-target.result c.in_err-target.field-0.0 (λ cause h. count_is c.args.site.now c.args.operation c.requires.action c.requires.counts ∙ reads_target c.args.site.now (exchanges_by (counted_cell (atomic_row c.args.operation))) (shown c.in_ok-at.at) cause c.in_ok-at.ensures.value h) c.in_err-target.ensures.target same

pub returns-clause-due : goal.returns-clause-due
returns-clause-due c =
    count_is c.args.site.now c.args.operation c.requires.action c.requires.counts
    ∙ reads_ok c.args.site.now (exchanges_by (counted_cell (atomic_row c.args.operation))) (shown c.in_ok-at.at) c.in_ok-target.target c.in_ok-at.ensures.value c.in_ok-target.ensures.target
    ∙ ap (λ (n : Cell). Ok (exchanges c.in_ok-target.target.0 n c.in_ok-target.target.1)) (sym c.counted_cell-new.ensures.lane)
    ∙ ap (λ (e : Effect). Ok e) (sym c.in_ok-exchange.ensures.shown)
