use Rattle.spv_results.specs.Operands.{known}
use Rattle.spv_computing.proofs.CompositeLemmas.{logical_data}
use Rattle.spv_sites.proofs.Exports.{logical_rule}
use Rattle.spv_computing.proofs.computing_composites.copy_logical.Goals as goal

pub value-requires : goal.value-requires
value-requires c = logical_data (known c.args.site.now.program.accepted) c.args.site.now.inst (logical_rule c.args.site.now.program.accepted c.args.site.now.inst c.requires.rule c.requires.operation)
