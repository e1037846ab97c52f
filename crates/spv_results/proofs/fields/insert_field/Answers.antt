use Rattle.std.proofs.Common.{◌∙◌, length, ap}
use Rattle.spv_types.specs.Rows.{leaves}
use Rattle.spv_results.proofs.FieldLemmas.{insert_shape, inserted_at, inserted_count, may_insert}
use Rattle.spv_results.proofs.fields.insert_field.Goals as goal

pub field-requires-clause-lanes : goal.field-requires-clause-lanes
field-requires-clause-lanes c =
    may_insert c.args.accepted.now c.args.inst.now c.args.base.now c.args.insert.now c.args.offset.now c.args.count.now c.types_are_sound.ensures
    c.requires.base c.requires.insert c.requires.offset c.requires.count c.requires.operation c.requires.rule
    (length (leaves c.resize.new.row)) (c.in_ok-resize.ensures.ok ∙ ap length c.cells.ensures)

pub field-requires-clause-offset : goal.field-requires-clause-offset
field-requires-clause-offset c =
    inserted_at c.args.accepted.now c.args.inst.now c.args.base.now c.args.insert.now c.args.offset.now c.args.count.now c.types_are_sound.ensures
    c.requires.base c.requires.insert c.requires.offset c.requires.count c.requires.operation c.requires.rule

pub field-requires-clause-count : goal.field-requires-clause-count
field-requires-clause-count c =
    inserted_count c.args.accepted.now c.args.inst.now c.args.base.now c.args.insert.now c.args.offset.now c.args.count.now c.types_are_sound.ensures
    c.requires.base c.requires.insert c.requires.offset c.requires.count c.requires.operation c.requires.rule

pub returns-clause-shape : goal.returns-clause-shape
returns-clause-shape c =
    insert_shape c.args.accepted.now c.args.inst.now c.args.base.now c.args.insert.now c.args.offset.now c.args.count.now c.types_are_sound.ensures
    c.requires.base c.requires.insert c.requires.offset c.requires.count c.requires.operation c.requires.rule c.field.new.into c.field.ensures.value
