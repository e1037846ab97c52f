use Rattle.spv_results.specs.Operands.{known}
use Rattle.spv_computing.proofs.DataLemmas.{extended_operands}
use Rattle.spv_computing.proofs.computing_lanes.glsl_two.Goals as goal

pub value-requires : goal.value-requires
value-requires c = (extended_operands (known c.args.site.now.program.accepted) c.args.site.now.inst 2 c.requires.rule.1 c.requires.count c.requires.rule.2).0.1

pub value-requires-2 : goal.value-requires-2
value-requires-2 c = (extended_operands (known c.args.site.now.program.accepted) c.args.site.now.inst 2 c.requires.rule.1 c.requires.count c.requires.rule.2).1
