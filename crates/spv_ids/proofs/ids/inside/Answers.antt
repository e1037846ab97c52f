use Rattle.spv_ids.proofs.IdLemmas.{frame_named, ok_same}
use Rattle.spv_ids.proofs.ids.inside.Goals as goal

pub returns-in_default-clause-value : goal.returns-in_default-clause-value
returns-in_default-clause-value c =
    ok_same c.operand.result _ _ (frame_named c.args.accepted.now c.args.frame.now c.args.depth c.args.id c.args.meaning c.requires.meant c.in_default.not-Undefined) c.operand.ensures.value
