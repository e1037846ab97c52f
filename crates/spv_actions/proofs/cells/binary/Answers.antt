use Rattle.std.proofs.Common.{subst}
use Rattle.spv_types.specs.Laws.{AreSound}
use Rattle.spv_valid.specs.Acceptance.{Accepted}
use Rattle.spv_results.specs.Operands.{known}
use Rattle.spv_results.specs.declared.computations.Computation.TheVariants as computation
use Rattle.spv_results.proofs.Exports.{sound_types}
use Rattle.spv_sites.specs.declared.effects.Gain.TheVariants.{Row}
use Rattle.spv_actions.proofs.CellLemmas.{gives_cell}
use Rattle.spv_computing.proofs.Exports.{binary_has, lane_operands}
use Rattle.spv_sites.proofs.Exports.{computed_due, due_by, gain_fits, gain_taken, gain_rooted}
use Rattle.spv_state.specs.declared.actions.Action.TheVariants.{Compute}
use Rattle.spv_actions.proofs.cells.binary.Goals as goal

pub read-requires-clause-data : goal.read-requires-clause-data
read-requires-clause-data c =
    let rule = c.is_kept.ensures.rule in
    (lane_operands (known c.args.site.now.program.accepted) c.args.site.now.inst 2 (binary_has c.args.site.now.inst.op c.args.operation rule.0) rule.1).0.1

pub read-requires-2-clause-data : goal.read-requires-2-clause-data
read-requires-2-clause-data c =
    let rule = c.is_kept.ensures.rule in
    (lane_operands (known c.args.site.now.program.accepted) c.args.site.now.inst 2 (binary_has c.args.site.now.inst.op c.args.operation rule.0) rule.1).1

pub returns : goal.returns
returns c =
    let x = c.args.site.now in
    let sound = subst (λ (a : Accepted). AreSound a.types) c.accepted.ensures (sound_types c.accepted.result.now c.insts-insts.ensures.valid) in
    let v = c.binary_single-value.result in
    let computes = c.binary_single-value.ensures in
    record {
      due = computed_due x (computation.Binary c.args.operation) Row v (due_by x Compute c.requires.computes) c.requires.operation computes;
      fits = record { store = tt; result = gain_fits x Row v sound computes.1; control = c.is_kept.ensures.next; rooted = gain_rooted x Row v sound computes.1; passed = tt };
      on = gives_cell x v c.args.into.now c.is_reached.ensures c.requires.into (gain_taken x Row v sound computes.1).0;
    }
