use Rattle.spv_accesses.proofs.MemoryRules.{copy_keeps, copy_next}
use Rattle.spv_accesses.proofs.kept.copy_memory_is_kept.Goals as goal

pub returns-clause-rule : goal.returns-clause-rule
returns-clause-rule c = copy_keeps c.instructions_keep_their_rules.ensures.each c.args.site.now c.accepted.result.now c.accepted.ensures c.insts-insts.ensures.accepted c.insts-insts.ensures.valid c.is_reached.ensures c.requires

pub returns-clause-next : goal.returns-clause-next
returns-clause-next c = copy_next c.instructions_keep_their_rules.ensures.each c.args.site.now c.accepted.result.now c.accepted.ensures c.insts-insts.ensures.accepted c.insts-insts.ensures.valid c.is_reached.ensures c.requires
