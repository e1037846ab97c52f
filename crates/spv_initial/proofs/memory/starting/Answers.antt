use Rattle.std.proofs.Common.{◌∙◌}
use Rattle.spv_initial.proofs.StartLemmas.{read_are, variables_read}
use Rattle.spv_initial.proofs.memory.starting.Goals as goal

pub memory-requires-clause-are : goal.memory-requires-clause-are
memory-requires-clause-are c =
    read_are c.args.accepted.now c.as_slice-2.result.now c.insts-insts.ensures.valid
    (c.as_slice-2.ensures.value ∙ variables_read c.args.accepted.now c.types-types.result.now c.insts-insts.result.now c.in_ok-list.list.items c.types-types.ensures c.insts-insts.ensures.insts c.in_ok-list.ensures)
