use Rattle.std.proofs.Common.{refl}
use Rattle.spv_app.proofs.Decodings.{read_module}
use Rattle.spv_app.proofs.texting.decoded_listings_are_read.Goals as goal

pub returns : goal.returns
returns c words raws insts fit short cut read =
    let is = c.instructions_are_cut.ensures.joined words raws fit cut in
    let have = read_module words raws insts c.one_reading.ensures.read fit short is.stand is.joined read in
    ((have.0, refl), have.1)
