use Rattle.std.proofs.Common.{◌≡◌, ◌∙◌, Err, Ok, ap, inr, rules, subst, sym}
use Rattle.std.specs.Prelude.{not}
use Rattle.spv_alu.specs.Results.{truth}
use Rattle.spv_base.specs.declared.values.Value.{Value, Scalar}
use Rattle.spv_types.specs.Laws.{AreSound}
use Rattle.spv_valid.specs.Acceptance.{Accepted}
use Rattle.spv_results.specs.Operands.{IsResult}
use Rattle.spv_results.proofs.Exports.{sound_types}
use Rattle.spv_state.specs.State.{frames_of}
use Rattle.spv_accesses.specs.PointerSites.{equal_operands}
use Rattle.spv_sites.specs.Effects.{gives}
use Rattle.spv_sites.proofs.Exports.{outside_due, result_fits, result_rooted}
use Rattle.spv_accesses.proofs.ComparisonLemmas.{unequal_fails, unequal_gives, truth_shape}
use Rattle.spv_accesses.proofs.pointers.ptr_not_equal.Goals as goal

pub ptr_equal_is_kept-requires : goal.ptr_equal_is_kept-requires
ptr_equal_is_kept-requires c = inr c.requires

pub returns-in_err-equal-clause-due : goal.returns-in_err-equal-clause-due
returns-in_err-equal-clause-due c =
    let same : c.from_residual.result ≡ Err c.in_err-equal.field-0.0 = search rules in
    outside_due c.args.site.now c.args.row.now (equal_operands c.args.site.now) c.from_residual.result c.in_err-equal.field-0.0 (λ cause fails. unequal_fails c.args.site.now c.requires cause fails) c.in_err-equal.ensures same

pub returns-clause-due : goal.returns-clause-due
returns-clause-due c =
    let held : c.put.new.row ≡ Scalar (truth (not c.in_ok-equal.equal)) = search rules in
    unequal_gives c.args.site.now c.requires c.in_ok-equal.equal c.in_ok-equal.ensures ∙ ap (λ (v : Value). Ok (gives v)) (sym held)

pub returns-clause-fits : goal.returns-clause-fits
returns-clause-fits c =
    let x = c.args.site.now in
    let kept = c.ptr_equal_is_kept.ensures.rule in
    let held : c.put.new.row ≡ Scalar (truth (not c.in_ok-equal.equal)) = search rules in
    let sound = subst (λ (a : Accepted). AreSound a.types) c.accepted.ensures (sound_types c.accepted.result.now c.insts-insts.ensures.valid) in
    let own : IsResult x.program.accepted x.inst c.put.new.row = subst (IsResult x.program.accepted x.inst) (sym held) (truth_shape x (not c.in_ok-equal.equal) sound kept.0) in
    record { store = tt; result = result_fits x.program.accepted x.inst c.put.new.row sound own; control = c.ptr_equal_is_kept.ensures.next; rooted = result_rooted x.program.accepted (frames_of x.state x.inv) x.inst c.put.new.row sound own; passed = tt }
