use Rattle.std.proofs.Common.{◌∙◌, length, ap}
use Rattle.spv_types.specs.Rows.{leaves}
use Rattle.spv_results.proofs.GlslLemmas.{may_join_one, shape_of_one}
use Rattle.spv_results.proofs.glsl_ops.glsl_one.Goals as goal

pub glsl-requires : goal.glsl-requires
glsl-requires c =
    may_join_one c.args.accepted.now c.args.inst.now c.args.operation c.types_are_sound.ensures c.requires.set c.requires.rule c.args.a.now c.requires.a c.requires.count
    c.again-second.result c.again-third.result (length (leaves c.resize.new.row)) c.again-second.ensures c.again-third.ensures (c.in_ok-resize.ensures.ok ∙ ap length c.cells.ensures)

pub returns-clause-shape : goal.returns-clause-shape
returns-clause-shape c =
    shape_of_one c.args.accepted.now c.args.inst.now c.args.operation c.types_are_sound.ensures c.requires.set c.requires.rule c.args.a.now c.requires.a c.requires.count
    c.again-second.result c.again-third.result c.glsl.new.into c.again-second.ensures c.again-third.ensures c.glsl.ensures.value
