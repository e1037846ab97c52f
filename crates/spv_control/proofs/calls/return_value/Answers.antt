use Rattle.std.proofs.Common.{◌≡◌, ◌∙◌, [], Err, Ok, Option, ap, rules, subst, sym}
use Rattle.spv_base.specs.declared.values.Value.{Value}
use Rattle.spv_operands.specs.Operands.{shown as stood}
use Rattle.spv_state.specs.declared.actions.Action.TheVariants.{ReturnValue}
use Rattle.spv_sites.specs.Effects.{Leave, goes}
use Rattle.spv_sites.specs.Fits.{LeaveFits, ResultRooted}
use Rattle.spv_sites.specs.Sites.{values}
use Rattle.spv_sites.proofs.Exports.{no_value_due, acting}
use Rattle.spv_control.proofs.EnterLemmas.{return_gives, return_missing}
use Rattle.spv_control.proofs.calls.return_value.Goals as goal

pub return_value_is_kept-requires : goal.return_value_is_kept-requires
return_value_is_kept-requires c = acting c.args.site.now.inst ReturnValue c.requires

pub returns-in_err-operand-clause-due : goal.returns-in_err-operand-clause-due
returns-in_err-operand-clause-due c =
    let same : c.from_residual.result ≡ Err c.in_err-operand.field-0.0 = search rules in
    no_value_due c.args.site.now c.args.row.now (values c.args.site.now 0) c.from_residual.result c.in_err-operand.field-0.0 (return_missing c.args.site.now c.requires) c.in_err-operand.ensures.value same

pub returns-clause-due : goal.returns-clause-due
returns-clause-due c =
    return_gives c.args.site.now (stood c.in_ok-operand.operand) c.requires c.in_ok-operand.ensures.value
    ∙ ap (λ (o : Option Value). Ok (goes (Leave o))) (sym c.in_ok-gain.ensures.value)

pub returns-clause-fits : goal.returns-clause-fits
returns-clause-fits c =
    let a = c.args.site.now.program.accepted in
    let v = stood c.in_ok-operand.operand in
    let given = sym c.in_ok-gain.ensures.value in
    record {
      store = tt;
      result = tt;
      control = subst (LeaveFits a c.args.site.now.inst) given (c.return_value_is_kept.ensures.returns v c.in_ok-operand.ensures.shape);
      rooted = tt;
      passed = subst (ResultRooted a []) given (c.return_value_is_kept.ensures.rooted v c.in_ok-operand.ensures.value c.in_ok-operand.ensures.shape);
    }
