use Rattle.std.proofs.Common.{◌∙◌, map, ap}
use Rattle.spv_frame.specs.Contents.{cells}
use Rattle.spv_frame.proofs.ContentLemmas.{phis_suit, sources_of}
use Rattle.spv_frame.proofs.frames.Frame.phis.Goals as goal

pub all_taken-requires : goal.all_taken-requires
all_taken-requires c = sources_of c.args.self.now.plan.values c.args.slots.now c.args.sources.now c.requires.phis

pub exchange_all-requires-clause-suit : goal.exchange_all-requires-clause-suit
exchange_all-requires-clause-suit c =
    phis_suit c.args.self.now.plan.values c.args.slots.now c.args.sources.now c.as_mut_slice.result.now c.requires.phis (ap (map cells) c.as_mut_slice.ensures.value ∙ c.in_ok-contents.ensures.cells)
