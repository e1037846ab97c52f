use Rattle.spv_operands.proofs.Exports.{constant_plain}
use Rattle.spv_ids.proofs.ids.outside.Goals as goal

pub returns-in-Some-clause-plain : goal.returns-in-Some-clause-plain
returns-in-Some-clause-plain c = constant_plain c.args.accepted.now c.args.id c.in-Some.part c.insts-insts.ensures.valid c.in-Some.ensures
