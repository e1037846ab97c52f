use Rattle.std.proofs.Common.{◌*◌, ◌∙◌, length, ap}
use Rattle.spv_types.specs.Rows.{leaves}
use Rattle.spv_results.proofs.ExtendedLemmas.{extended_shape, may_extend}
use Rattle.spv_results.proofs.extended_ops.extended.Goals as goal

pub extended-requires : goal.extended-requires
extended-requires c =
    may_extend c.args.accepted.now c.args.inst.now c.args.operation c.args.a.now c.args.b.now c.types_are_sound.ensures c.requires.a c.requires.b c.requires.operation c.requires.rule
    (length (leaves c.resize.new.row)) (c.in_ok-resize.ensures.ok ∙ ap (λ cs. 2 * length cs) c.cells.ensures)

pub returns-clause-shape : goal.returns-clause-shape
returns-clause-shape c =
    extended_shape c.args.accepted.now c.args.inst.now c.args.operation c.args.a.now c.args.b.now c.types_are_sound.ensures c.requires.a c.requires.b c.requires.operation c.requires.rule
    c.extended.new.into c.extended.ensures.value
