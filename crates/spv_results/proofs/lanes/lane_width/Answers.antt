use Rattle.std.proofs.Common.{◌∙◌, ap}
use Rattle.spv_typing.specs.Lanes.{lanes_of}
use Rattle.spv_types.specs.Types.{Types}
use Rattle.spv_results.proofs.LaneTypes.{narrow_lanes}
use Rattle.spv_results.proofs.lanes.lane_width.Goals as goal

pub width_of-requires : goal.width_of-requires
width_of-requires c =
    narrow_lanes c.args.accepted.now.types c.args.ty c.in-Some.lanes c.types_are_sound.ensures
    (c.in-Some.ensures ∙ ap (λ (ts : Types). lanes_of ts c.args.ty) c.types.ensures)
