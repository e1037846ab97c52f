use Rattle.spv_cfg.specs.Calls.{numbered}
use Rattle.spv_valid.proofs.StackLemmas.{kept_within}
use Rattle.spv_valid.proofs.stack.chains_of.Goals as goal

pub weights_of-requires : goal.weights_of-requires
weights_of-requires c =
    rw (c.as_slice.ensures.value, c.in_ok-kept.ensures) (kept_within c.args.types.now (numbered 0 c.args.calls.now.functions) c.count.result c.count.ensures.numbers c.args.stands.now)

pub heaviest-requires : goal.heaviest-requires
heaviest-requires c = rw (c.as_slice-2.ensures.value, c.in_ok-weights.ensures.len) c.count.ensures.count
