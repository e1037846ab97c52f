use Rattle.spv_cfg.proofs.LongestChains.{heaviest_is_heaviest}
use Rattle.spv_cfg.proofs.chains.counted_chains_are_heaviest.Goals as goal

pub returns : goal.returns
returns c = heaviest_is_heaviest
