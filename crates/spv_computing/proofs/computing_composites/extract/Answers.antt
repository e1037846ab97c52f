use Rattle.spv_results.specs.Operands.{known}
use Rattle.spv_base.specs.declared.instructions.Inst.{Inst}
use Rattle.spv_bodies.specs.Composites.{KeepsExtract}
use Rattle.spv_valid.specs.Acceptance.{Accepted}
use Rattle.spv_computing.proofs.CompositeLemmas.{extract_data, read_so}
use Rattle.spv_computing.proofs.computing_composites.extract.Goals as goal

pub value-requires : goal.value-requires
value-requires c = (extract_data (known c.args.site.now.program.accepted) c.args.site.now.inst c.requires.rule)

pub extract-requires-clause-rule : goal.extract-requires-clause-rule
extract-requires-clause-rule c =
    read_so (λ (a : Accepted) (d : Inst). KeepsExtract (known a) d) c.accepted.result.now c.args.site.now.program.accepted c.inst.result.now c.args.site.now.inst c.accepted.ensures c.inst.ensures c.requires.rule
