use Rattle.spv_sites.proofs.Exports.{computed_keeps, computed_next, computed_sized}
use Rattle.spv_computing.proofs.kept.is_kept.Goals as goal

pub returns-clause-rule : goal.returns-clause-rule
returns-clause-rule c = computed_keeps c.instructions_keep_their_rules.ensures.each c.args.site.now c.accepted.result.now c.accepted.ensures c.insts-insts.ensures.accepted c.insts-insts.ensures.valid c.is_reached.ensures c.args.computation c.requires

pub returns-clause-sized : goal.returns-clause-sized
returns-clause-sized c = computed_sized c.instructions_keep_their_rules.ensures.each c.args.site.now c.accepted.result.now c.accepted.ensures c.insts-insts.ensures.accepted c.insts-insts.ensures.valid c.is_reached.ensures c.args.computation c.requires

pub returns-clause-next : goal.returns-clause-next
returns-clause-next c = computed_next c.instructions_keep_their_rules.ensures.each c.args.site.now c.accepted.result.now c.accepted.ensures c.insts-insts.ensures.accepted c.insts-insts.ensures.valid c.is_reached.ensures c.args.computation c.requires
