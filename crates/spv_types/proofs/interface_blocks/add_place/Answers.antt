use Rattle.spv_types.proofs.InterfaceBlockLemmas.{place_put}
use Rattle.spv_types.proofs.interface_blocks.add_place.Goals as goal

pub returns : goal.returns
returns c = λ a b. place_put c.args.set c.args.binding a b _ _ (c.in_ok-insert.ensures.updates.0 (a, b))
