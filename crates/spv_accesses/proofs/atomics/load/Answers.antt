use Rattle.std.proofs.Common.{◌≡◌, ◌∙◌, Err, Ok, ap, rules, sym}
use Rattle.spv_base.specs.declared.values.Value.{Value}
use Rattle.spv_operands.specs.Operands.{shown}
use Rattle.spv_sites.specs.Sites.{first_of_three}
use Rattle.spv_accesses.specs.AtomicSites.{target}
use Rattle.spv_sites.specs.Effects.{gives}
use Rattle.spv_sites.proofs.Exports.{outside_due}
use Rattle.spv_accesses.proofs.AtomicSteps.{load_is, loads_by, reads_first, reads_ok, reads_target}
use Rattle.spv_accesses.proofs.atomics.load.Goals as goal

pub returns-in_err-at-clause-due : goal.returns-in_err-at-clause-due
returns-in_err-at-clause-due c =
    let same : c.from_residual.result ≡ Err c.in_err-at.field-0.0 = search rules in
    outside_due c.args.site.now c.args.row.now (first_of_three c.args.site.now) c.from_residual.result c.in_err-at.field-0.0 (λ cause h. load_is c.args.site.now c.requires.action ∙ reads_first c.args.site.now loads_by cause h) c.in_err-at.ensures.value same

pub returns-in_err-_place-clause-due : goal.returns-in_err-_place-clause-due
returns-in_err-_place-clause-due c =
    let same : c.from_residual-in_err-_place.result ≡ Err c.in_err-_place.field-0.0 = search rules in
    outside_due c.args.site.now c.args.row.now (target c.args.site.now (shown c.in_ok-at.at)) c.from_residual-in_err-_place.result c.in_err-_place.field-0.0 (λ cause h. load_is c.args.site.now c.requires.action ∙ reads_target c.args.site.now loads_by (shown c.in_ok-at.at) cause c.in_ok-at.ensures.value h) c.in_err-_place.ensures.target same

pub returns-clause-due : goal.returns-clause-due
returns-clause-due c =
    load_is c.args.site.now c.requires.action
    ∙ reads_ok c.args.site.now loads_by (shown c.in_ok-at.at) (c.in_ok-_place._place, c.in_ok-_place.old) c.in_ok-at.ensures.value c.in_ok-_place.ensures.target
    ∙ ap (λ (v : Value). Ok (gives v)) (sym c.in_ok-put.ensures)
