use Rattle.spv_results.specs.Operands.{known}
use Rattle.spv_computing.proofs.DataLemmas.{extended_has, lane_operands}
use Rattle.spv_computing.proofs.computing_lanes.extended.Goals as goal

pub value-requires : goal.value-requires
value-requires c = (lane_operands (known c.args.site.now.program.accepted) c.args.site.now.inst 2 (extended_has c.args.site.now.inst.op c.args.operation c.requires.0) c.requires.1).0.1

pub value-requires-2 : goal.value-requires-2
value-requires-2 c = (lane_operands (known c.args.site.now.program.accepted) c.args.site.now.inst 2 (extended_has c.args.site.now.inst.op c.args.operation c.requires.0) c.requires.1).1
