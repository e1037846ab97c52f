use Rattle.std.proofs.Common.{subst}
use Rattle.spv_types.specs.Laws.{AreSound}
use Rattle.spv_valid.specs.Acceptance.{Accepted}
use Rattle.spv_results.specs.Operands.{known}
use Rattle.spv_results.proofs.Exports.{sound_types}
use Rattle.spv_computing.proofs.SelectLemmas.{select_computes, select_operation, select_values, values_plain}
use Rattle.spv_computing.proofs.kept.select_computes.Goals as goal

pub is_kept-requires : goal.is_kept-requires
is_kept-requires c = select_operation c.args.site.now.inst c.requires.action

pub returns-clause-operation : goal.returns-clause-operation
returns-clause-operation c = select_operation c.args.site.now.inst c.requires.action

pub returns-clause-due : goal.returns-clause-due
returns-clause-due c =
    let x = c.args.site.now in
    let rule = c.is_kept.ensures.rule in
    let sound = subst (λ (a : Accepted). AreSound a.types) c.accepted.ensures (sound_types c.accepted.result.now c.insts-insts.ensures.valid) in
    let lanes = select_values (known x.program.accepted) x.inst c.requires.values rule.1 in
    select_computes x c.requires.action (select_operation x.inst c.requires.action)
    (values_plain c.operands_have_shapes.ensures.values c.operands_have_shapes.ensures.pointers x c.accepted.result.now c.accepted.ensures c.insts-insts.ensures.accepted c.is_reached.ensures sound rule.0 lanes)
