use Rattle.spv_results.specs.Operands.{known}
use Rattle.spv_computing.proofs.CompositeLemmas.{extract_dynamic_data}
use Rattle.spv_computing.proofs.computing_composites.extract_dynamic.Goals as goal

pub value-requires : goal.value-requires
value-requires c = (extract_dynamic_data (known c.args.site.now.program.accepted) c.args.site.now.inst c.requires).0

pub value-requires-2 : goal.value-requires-2
value-requires-2 c = (extract_dynamic_data (known c.args.site.now.program.accepted) c.args.site.now.inst c.requires).1
