use Rattle.std.proofs.Common.{◌≡◌, Some, subst, sym}
use Rattle.spv_base.specs.declared.values.Value.{Value, Scalar}
use Rattle.spv_sites.specs.Fits.{ResultFits}
use Rattle.spv_state.proofs.Exports.{IsKnown, known_as}
use Rattle.spv_machine.proofs.StatusSteps.{reached_frame, reached_inside}
use Rattle.spv_machine.proofs.ReachedLemmas.{result_shape, scalar_plain}
use Rattle.spv_machine.proofs.applying.put_result.Goals as goal

pub set_value-requires-clause-frame : goal.set_value-requires-clause-frame
set_value-requires-clause-frame c =
    reached_frame c.args.m.now c.args.recorded.now.state c.args.inv c.args.inst.now c.accepted-accepted.result.now c.accepted-accepted.ensures.module c.requires.reached

pub set_value-requires-clause-value : goal.set_value-requires-clause-value
set_value-requires-clause-value c =
    let p = c.args.m.now in
    let known : IsKnown p.accepted = known_as p.accepted c.accepted-accepted.result.now c.accepted-accepted.ensures.module c.insts-insts.ensures.accepted c.insts-insts.ensures.valid in
    result_shape p known c.args.recorded.now.state c.args.inv c.args.inst.now c.args.row.now c.accepted-accepted.result.now c.accepted-accepted.ensures.module c.requires.reached
    (rw c.in-Row.is at c.requires.fits) (rw c.in-Row.is at c.requires.held)

pub set_pointer-requires-clause-inv : goal.set_pointer-requires-clause-inv
set_pointer-requires-clause-inv c = reached_inside c.args.m.now c.args.recorded.now.state c.args.inv c.args.inst.now c.requires.reached

pub set_pointer-requires-clause-frame : goal.set_pointer-requires-clause-frame
set_pointer-requires-clause-frame c =
    reached_frame c.args.m.now c.args.recorded.now.state c.args.inv c.args.inst.now c.accepted-accepted.result.now c.accepted-accepted.ensures.module c.requires.reached

pub set_value-requires-in-Handed-clause-frame : goal.set_value-requires-in-Handed-clause-frame
set_value-requires-in-Handed-clause-frame c =
    reached_frame c.args.m.now c.args.recorded.now.state c.args.inv c.args.inst.now c.accepted-accepted.result.now c.accepted-accepted.ensures.module c.requires.reached

pub set_value-requires-in-Handed-clause-value : goal.set_value-requires-in-Handed-clause-value
set_value-requires-in-Handed-clause-value c =
    let p = c.args.m.now in
    let known : IsKnown p.accepted = known_as p.accepted c.accepted-accepted.result.now c.accepted-accepted.ensures.module c.insts-insts.ensures.accepted c.insts-insts.ensures.valid in
    let held : c.args.row.now ≡ Scalar c.in-Handed._cell = rw c.in-Handed.is at c.requires.held in
    let fits : ResultFits p.accepted c.args.inst.now (Some (Scalar c.in-Handed._cell)) = rw c.in-Handed.is at c.requires.fits in
    result_shape p known c.args.recorded.now.state c.args.inv c.args.inst.now c.args.row.now c.accepted-accepted.result.now c.accepted-accepted.ensures.module c.requires.reached
    (subst (λ (x : Value). ResultFits p.accepted c.args.inst.now (Some x)) (sym held) fits) (scalar_plain c.args.row.now c.in-Handed._cell held)
