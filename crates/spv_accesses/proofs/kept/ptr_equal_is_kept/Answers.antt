use Rattle.spv_accesses.proofs.MemoryRules.{comparison_keeps, comparison_next}
use Rattle.spv_accesses.proofs.kept.ptr_equal_is_kept.Goals as goal

pub returns-clause-rule : goal.returns-clause-rule
returns-clause-rule c = comparison_keeps c.instructions_keep_their_rules.ensures.each c.args.site.now c.accepted.result.now c.accepted.ensures c.insts-insts.ensures.accepted c.insts-insts.ensures.valid c.is_reached.ensures c.requires

pub returns-clause-next : goal.returns-clause-next
returns-clause-next c = comparison_next c.instructions_keep_their_rules.ensures.each c.args.site.now c.accepted.result.now c.accepted.ensures c.insts-insts.ensures.accepted c.insts-insts.ensures.valid c.is_reached.ensures c.requires
