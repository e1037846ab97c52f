use Rattle.spv_results.specs.Operands.{known}
use Rattle.spv_computing.proofs.DataLemmas.{extended_operands}
use Rattle.spv_computing.proofs.computing_lanes.glsl_one.Goals as goal

pub value-requires : goal.value-requires
value-requires c = (extended_operands (known c.args.site.now.program.accepted) c.args.site.now.inst 1 c.requires.rule.1 c.requires.count c.requires.rule.2).1
