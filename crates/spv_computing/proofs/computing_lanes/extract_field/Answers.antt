use Rattle.spv_results.specs.Operands.{known}
use Rattle.spv_computing.proofs.DataLemmas.{extract_has, lane_operands}
use Rattle.spv_computing.proofs.computing_lanes.extract_field.Goals as goal

pub value-requires : goal.value-requires
value-requires c = (lane_operands (known c.args.site.now.program.accepted) c.args.site.now.inst 3 (extract_has c.args.site.now.inst.op c.args.operation c.requires.extracts c.requires.rule.0) c.requires.rule.1).0.0.1

pub value-requires-2 : goal.value-requires-2
value-requires-2 c = (lane_operands (known c.args.site.now.program.accepted) c.args.site.now.inst 3 (extract_has c.args.site.now.inst.op c.args.operation c.requires.extracts c.requires.rule.0) c.requires.rule.1).0.1

pub value-requires-3 : goal.value-requires-3
value-requires-3 c = (lane_operands (known c.args.site.now.program.accepted) c.args.site.now.inst 3 (extract_has c.args.site.now.inst.op c.args.operation c.requires.extracts c.requires.rule.0) c.requires.rule.1).1
