use Rattle.std.proofs.Common.{◌≡◌, ◌∙◌, Some, ap, subst, sym}
use Rattle.std.specs.Option.{option_map}
use Rattle.spv_types.specs.Laws.{AreSound}
use Rattle.spv_valid.specs.Acceptance.{Accepted}
use Rattle.spv_operands.specs.Operands.{pointer_of, referred, shown}
use Rattle.spv_results.proofs.Exports.{sound_types}
use Rattle.spv_sites.proofs.Exports.{lent_shape, pointer_is, pointer_shape, site_root}
use Rattle.spv_computing.proofs.computing_composites.copy_object.Goals as goal

pub copy_value-requires-clause-shape : goal.copy_value-requires-clause-shape
copy_value-requires-clause-shape c =
    lent_shape c.args.site.now.program.accepted (subst (λ (a : Accepted). AreSound a.types) c.accepted.ensures (sound_types c.accepted.result.now c.insts-insts.ensures.valid)) c.args.site.now.inst 0 (shown c.in_ok-operand.operand) c.in_ok-operand.ensures.shape c.in-Some.part (sym (c.part.ensures c.in_ok-operand.ensures.plain) ∙ c.in-Some.is)

pub returns : goal.returns
returns c =
    let v = shown c.in_ok-operand.operand in
    let q = c.in_ok-new-in-Some-pointer.field-0.value in
    let is : pointer_of v ≡ Some q = sym (c.pointer.ensures c.in_ok-operand.ensures.plain) ∙ ap (option_map referred) c.in-Some-pointer.is ∙ ap Some (sym (c.in_ok-new-in-Some-pointer.ensures.ok ∙ c.in_ok-pointer-in-Some-pointer.ensures)) in (
      c.in_ok-operand.ensures.value ∙ ap Some (pointer_is v q is),
      (
        pointer_shape c.args.site.now.program.accepted (subst (λ (a : Accepted). AreSound a.types) c.accepted.ensures (sound_types c.accepted.result.now c.insts-insts.ensures.valid)) c.args.site.now.inst 0 v c.in_ok-operand.ensures.shape c.args.site.now.inst.ty q c.requires.rule is,
        site_root c.args.site.now 0 c.args.site.now.inst.ty v q c.accepted.result.now c.accepted.ensures c.insts-insts.ensures.accepted c.insts-insts.ensures.valid c.is_reached.ensures c.in_ok-operand.ensures.value c.requires.rule is,
      ),
    )
