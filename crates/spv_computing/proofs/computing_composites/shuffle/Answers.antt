use Rattle.spv_results.specs.Operands.{known}
use Rattle.spv_base.specs.declared.instructions.Inst.{Inst}
use Rattle.spv_bodies.specs.Composites.{KeepsShuffle}
use Rattle.spv_valid.specs.Acceptance.{Accepted}
use Rattle.spv_computing.proofs.CompositeLemmas.{shuffle_data, read_so}
use Rattle.spv_computing.proofs.computing_composites.shuffle.Goals as goal

pub value-requires : goal.value-requires
value-requires c = (shuffle_data (known c.args.site.now.program.accepted) c.args.site.now.inst c.requires).0

pub value-requires-2 : goal.value-requires-2
value-requires-2 c = (shuffle_data (known c.args.site.now.program.accepted) c.args.site.now.inst c.requires).1

pub shuffle-requires-clause-rule : goal.shuffle-requires-clause-rule
shuffle-requires-clause-rule c =
    read_so (λ (a : Accepted) (d : Inst). KeepsShuffle (known a) d) c.accepted.result.now c.args.site.now.program.accepted c.inst.result.now c.args.site.now.inst c.accepted.ensures c.inst.ensures c.requires
