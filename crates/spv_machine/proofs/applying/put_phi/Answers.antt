use Rattle.spv_machine.proofs.StatusSteps.{reached_frame, reached_inside}
use Rattle.spv_machine.proofs.Phis.{phi_shape}
use Rattle.spv_machine.proofs.applying.put_phi.Goals as goal

pub set_value-requires-clause-frame : goal.set_value-requires-clause-frame
set_value-requires-clause-frame c =
    reached_frame c.args.m.now c.args.recorded.now.state c.args.inv c.args.inst.now c.accepted-accepted.result.now c.accepted-accepted.ensures.module c.requires.reached

pub set_value-requires-clause-value : goal.set_value-requires-clause-value
set_value-requires-clause-value c =
    phi_shape c.args.m.now.accepted c.accepted-accepted.result.now c.accepted-accepted.ensures.module c.args.phi.id c.in-Value.row (rw c.in-Value.is at c.requires.value) (rw c.in-Value.is at c.requires.plain)

pub set_pointer-requires-clause-inv : goal.set_pointer-requires-clause-inv
set_pointer-requires-clause-inv c = reached_inside c.args.m.now c.args.recorded.now.state c.args.inv c.args.inst.now c.requires.reached

pub set_pointer-requires-clause-frame : goal.set_pointer-requires-clause-frame
set_pointer-requires-clause-frame c =
    reached_frame c.args.m.now c.args.recorded.now.state c.args.inv c.args.inst.now c.accepted-accepted.result.now c.accepted-accepted.ensures.module c.requires.reached
