use Rattle.spv_sites.proofs.Exports.{store_keeps, store_next}
use Rattle.spv_accesses.proofs.kept.store_is_kept.Goals as goal

pub returns-clause-rule : goal.returns-clause-rule
returns-clause-rule c = store_keeps c.instructions_keep_their_rules.ensures.each c.args.site.now c.accepted.result.now c.accepted.ensures c.insts-insts.ensures.accepted c.insts-insts.ensures.valid c.is_reached.ensures c.requires

pub returns-clause-next : goal.returns-clause-next
returns-clause-next c = store_next c.instructions_keep_their_rules.ensures.each c.args.site.now c.accepted.result.now c.accepted.ensures c.insts-insts.ensures.accepted c.insts-insts.ensures.valid c.is_reached.ensures c.requires
