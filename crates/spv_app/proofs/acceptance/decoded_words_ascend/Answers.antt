use Rattle.std.proofs.Common.{arith}
use Rattle.spv_app.proofs.Readings.{read_in_order}
use Rattle.spv_app.proofs.acceptance.decoded_words_ascend.Goals as goal

pub returns : goal.returns
returns c words raws insts fit cut read =
    read_in_order 5 0 raws insts (omega arith) (c.instructions_are_cut.ensures.joined words raws fit cut).stand (c.instructions_stand_at_their_words.ensures raws insts read)
