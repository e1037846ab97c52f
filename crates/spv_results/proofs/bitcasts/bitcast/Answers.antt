use Rattle.std.proofs.Common.{◌∙◌, ℕ, ap}
use Rattle.spv_effects.specs.Bitcasts.{bitcast_value}
use Rattle.spv_results.specs.Results.{lane_count}
use Rattle.spv_results.proofs.BitcastLemmas.{bitcast_shape, may_cast}
use Rattle.spv_results.proofs.bitcasts.bitcast.Goals as goal

pub bitcast-requires-clause-bits : goal.bitcast-requires-clause-bits
bitcast-requires-clause-bits c =
    may_cast c.args.accepted.now c.args.inst.now c.args.a.now c.types_are_sound.ensures c.requires.a c.requires.operation c.requires.rule
    c.lane_count-count.result c.lane_width-width.result c.lane_count-count.ensures c.lane_width-width.ensures

pub returns-clause-shape : goal.returns-clause-shape
returns-clause-shape c =
    bitcast_shape c.args.accepted.now c.args.inst.now c.args.a.now c.types_are_sound.ensures c.requires.a c.requires.operation c.requires.rule
    c.bitcast.new.into
    (c.bitcast.ensures.value ∙ ap (λ (n : ℕ). bitcast_value n c.lane_width-width.result c.args.a.now) c.lane_count-count.ensures
    ∙ ap (λ (w : ℕ). bitcast_value (lane_count c.args.accepted.now.types c.args.inst.now.ty) w c.args.a.now) c.lane_width-width.ensures)
