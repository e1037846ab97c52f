use Rattle.std.proofs.Common.{◌∙◌}
use Rattle.spv_initial.proofs.StartLemmas.{are_targets}
use Rattle.spv_initial.proofs.memory.without_variables.Goals as goal

pub new-requires-2 : goal.new-requires-2
new-requires-2 c =
    are_targets c.args.accepted.now c.args.list.now c.deref.result.now c.in_ok-types.types.value c.insts-insts.ensures.valid c.requires (c.deref.ensures.value ∙ c.in_ok-targets.ensures)
    (c.in_ok-types.ensures.ok ∙ c.in_ok-copy.ensures ∙ c.types.ensures)
