use Rattle.std.proofs.Common.{◌∙◌, length, ap}
use Rattle.spv_types.specs.Rows.{leaves}
use Rattle.spv_effects.specs.UnaryOps.{unary_value}
use Rattle.spv_results.proofs.UnaryLemmas.{may_turn, unary_shape}
use Rattle.spv_results.proofs.unary_ops.unary.Goals as goal

pub unary-requires : goal.unary-requires
unary-requires c =
    may_turn c.args.accepted.now c.args.inst.now c.args.a.now c.types_are_sound.ensures c.requires.a c.args.operation c.requires.operation c.requires.rule
    (length (leaves c.resize.new.row)) c.lane_width-width.result (c.in_ok-resize.ensures.ok ∙ ap length c.cells.ensures) c.lane_width-width.ensures

pub returns-clause-shape : goal.returns-clause-shape
returns-clause-shape c =
    unary_shape c.args.accepted.now c.args.inst.now c.args.a.now c.types_are_sound.ensures c.requires.a c.args.operation c.requires.operation c.requires.rule
    c.unary.new.into (c.unary.ensures.value ∙ ap (λ w. unary_value c.args.operation w c.args.a.now) c.lane_width-width.ensures)
