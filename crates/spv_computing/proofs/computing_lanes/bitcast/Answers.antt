use Rattle.spv_results.specs.Operands.{known}
use Rattle.spv_computing.proofs.DataLemmas.{bitcast_has, lane_operands, one_has}
use Rattle.spv_computing.proofs.computing_lanes.bitcast.Goals as goal

pub value-requires : goal.value-requires
value-requires c = (lane_operands (known c.args.site.now.program.accepted) c.args.site.now.inst 1 (one_has c.args.site.now.inst.op 124 1 c.requires.0 bitcast_has) c.requires.1).1
