use Rattle.spv_valid.proofs.AcceptedLemmas.{flow_calls}
use Rattle.spv_valid.proofs.acceptance.read_start.Goals as goal

pub stack_cells-requires : goal.stack_cells-requires
stack_cells-requires c = rw c.calls.ensures (flow_calls (c.args.types.now, c.args.consts.now) c.args.index.now.insts c.in_ok-flow.flow c.in_ok-flow.ensures)
