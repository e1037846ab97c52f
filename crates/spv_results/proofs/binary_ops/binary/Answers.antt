use Rattle.std.proofs.Common.{◌∙◌, length, ap}
use Rattle.spv_types.specs.Rows.{leaves}
use Rattle.spv_results.proofs.BinaryLemmas.{binary_shape, may_meet}
use Rattle.spv_results.proofs.binary_ops.binary.Goals as goal

pub binary-requires : goal.binary-requires
binary-requires c =
    may_meet c.args.accepted.now c.args.inst.now c.args.a.now c.args.b.now c.types_are_sound.ensures c.requires.a c.requires.b c.args.operation c.requires.operation c.requires.rule
    (length (leaves c.resize.new.row)) (c.in_ok-resize.ensures.ok ∙ ap length c.cells.ensures)

pub returns-clause-shape : goal.returns-clause-shape
returns-clause-shape c =
    binary_shape c.args.accepted.now c.args.inst.now c.args.a.now c.args.b.now c.types_are_sound.ensures c.requires.a c.requires.b c.args.operation c.requires.operation c.requires.rule
    c.binary.new.into c.binary.ensures.value
