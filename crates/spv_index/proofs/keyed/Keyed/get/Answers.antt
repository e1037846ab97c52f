use Rattle.std.proofs.Common.{◌∙◌}
use Rattle.spv_index.proofs.PlaceLemmas.{entry_led}
use Rattle.spv_index.proofs.keyed.Keyed.get.Goals as goal

pub returns : goal.returns
returns g c = c.item_with.ensures ∙ entry_led _ _ _ _ _ _ c.as_slice.ensures.value c.self.view_is c.self.invariant c.get.ensures
