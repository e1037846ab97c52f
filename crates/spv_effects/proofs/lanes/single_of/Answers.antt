use Rattle.std.proofs.Common.{◌∙◌, length, ap}
use Rattle.spv_base.specs.declared.values.Value.{Value}
use Rattle.spv_types.specs.Rows.{leaves}
use Rattle.spv_effects.specs.Lanes.{of_lanes}
use Rattle.spv_effects.proofs.LaneLemmas.{leaves_of_lanes}
use Rattle.spv_effects.proofs.lanes.single_of.Goals as goal

pub of-requires : goal.of-requires
of-requires c = leaves_of_lanes c.from_ref.result.now

pub of_part-requires : goal.of_part-requires
of_part-requires c = ap (λ (v : Value). length (leaves v)) c.of.ensures ∙ ap length (leaves_of_lanes c.from_ref.result.now) ∙ c.from_ref.ensures.len

pub returns : goal.returns
unfolding of_lanes
returns c = c.of_part.ensures ∙ c.of.ensures ∙ ap of_lanes c.from_ref.ensures.value
