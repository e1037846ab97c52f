use Rattle.spv_accesses.proofs.MemoryRules.{atomic_keeps, atomic_next}
use Rattle.spv_accesses.proofs.kept.atomic_is_kept.Goals as goal

pub returns-clause-rule : goal.returns-clause-rule
returns-clause-rule c = atomic_keeps c.instructions_keep_their_rules.ensures.each c.args.site.now c.accepted.result.now c.accepted.ensures c.insts-insts.ensures.accepted c.insts-insts.ensures.valid c.is_reached.ensures c.args.operation c.requires

pub returns-clause-next : goal.returns-clause-next
returns-clause-next c = atomic_next c.instructions_keep_their_rules.ensures.each c.args.site.now c.accepted.result.now c.accepted.ensures c.insts-insts.ensures.accepted c.insts-insts.ensures.valid c.is_reached.ensures c.args.operation c.requires
