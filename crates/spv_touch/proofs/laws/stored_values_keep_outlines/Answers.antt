use Rattle.spv_touch.proofs.SoundLemmas.{stores_fit}
use Rattle.spv_touch.proofs.laws.stored_values_keep_outlines.Goals as goal

pub returns : goal.returns
returns c =
    stores_fit c.instructions_keep_their_rules.ensures.each c.operands_have_shapes.ensures.values c.operands_have_shapes.ensures.pointers c.accepted_modules_are_valid.ensures
