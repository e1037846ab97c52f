use Rattle.spv_results.specs.Operands.{known}
use Rattle.spv_computing.proofs.DataLemmas.{lane_operands, one_has, select_has}
use Rattle.spv_computing.proofs.computing_lanes.select.Goals as goal

pub value-requires : goal.value-requires
value-requires c = (lane_operands (known c.args.site.now.program.accepted) c.args.site.now.inst 3 (one_has c.args.site.now.inst.op 169 3 c.requires.operation select_has) c.requires.rule).0.0.1

pub value-requires-2 : goal.value-requires-2
value-requires-2 c = (lane_operands (known c.args.site.now.program.accepted) c.args.site.now.inst 3 (one_has c.args.site.now.inst.op 169 3 c.requires.operation select_has) c.requires.rule).0.1

pub value-requires-3 : goal.value-requires-3
value-requires-3 c = (lane_operands (known c.args.site.now.program.accepted) c.args.site.now.inst 3 (one_has c.args.site.now.inst.op 169 3 c.requires.operation select_has) c.requires.rule).1
