use Rattle.spv_results.specs.Operands.{known}
use Rattle.spv_computing.proofs.DataLemmas.{lane_operands, vector_has}
use Rattle.spv_computing.proofs.computing_lanes.truth.Goals as goal

pub value-requires : goal.value-requires
value-requires c = (lane_operands (known c.args.site.now.program.accepted) c.args.site.now.inst 1 (vector_has c.args.site.now.inst.op c.args.operation c.requires.0) c.requires.1).1
