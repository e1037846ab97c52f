use Rattle.spv_results.specs.Operands.{known}
use Rattle.spv_computing.proofs.CompositeLemmas.{insert_data}
use Rattle.spv_computing.proofs.computing_composites.insert.Goals as goal

pub value-requires : goal.value-requires
value-requires c = (insert_data (known c.args.site.now.program.accepted) c.args.site.now.inst c.requires.rule).0

pub value-requires-2 : goal.value-requires-2
value-requires-2 c = (insert_data (known c.args.site.now.program.accepted) c.args.site.now.inst c.requires.rule).1
