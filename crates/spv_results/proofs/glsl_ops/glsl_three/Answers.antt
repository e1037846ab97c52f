use Rattle.std.proofs.Common.{◌∙◌, length, ap}
use Rattle.spv_types.specs.Rows.{leaves}
use Rattle.spv_results.proofs.GlslLemmas.{may_join_three, shape_of_three}
use Rattle.spv_results.proofs.glsl_ops.glsl_three.Goals as goal

pub glsl-requires : goal.glsl-requires
glsl-requires c =
    may_join_three c.args.accepted.now c.args.inst.now c.args.operation c.types_are_sound.ensures c.requires.set c.requires.rule c.args.a.now c.args.b.now c.args.c.now
    c.requires.a c.requires.b c.requires.c c.requires.count (length (leaves c.resize.new.row)) (c.in_ok-resize.ensures.ok ∙ ap length c.cells.ensures)

pub returns-clause-shape : goal.returns-clause-shape
returns-clause-shape c =
    shape_of_three c.args.accepted.now c.args.inst.now c.args.operation c.types_are_sound.ensures c.requires.set c.requires.rule c.args.a.now c.args.b.now c.args.c.now
    c.requires.a c.requires.b c.requires.c c.requires.count c.glsl.new.into c.glsl.ensures.value
