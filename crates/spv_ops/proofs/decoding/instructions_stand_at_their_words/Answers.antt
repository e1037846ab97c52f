use Rattle.spv_ops.proofs.InstLaws.{insts_stand}
use Rattle.spv_ops.proofs.decoding.instructions_stand_at_their_words.Goals as goal

pub returns : goal.returns
returns c = insts_stand
