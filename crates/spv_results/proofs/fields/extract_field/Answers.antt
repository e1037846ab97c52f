use Rattle.std.proofs.Common.{◌∙◌, length, ap}
use Rattle.spv_types.specs.Rows.{leaves}
use Rattle.spv_results.proofs.FieldLemmas.{extract_shape, extracted_at, extracted_count, may_extract}
use Rattle.spv_results.proofs.fields.extract_field.Goals as goal

pub field-requires-clause-lanes : goal.field-requires-clause-lanes
field-requires-clause-lanes c =
    may_extract c.args.accepted.now c.args.inst.now c.args.operation c.args.base.now c.args.offset.now c.args.count.now c.types_are_sound.ensures
    c.requires.base c.requires.offset c.requires.count c.requires.operation c.requires.extracts c.requires.rule
    c.again-again.result (length (leaves c.resize.new.row)) c.again-again.ensures (c.in_ok-resize.ensures.ok ∙ ap length c.cells.ensures)

pub field-requires-clause-offset : goal.field-requires-clause-offset
field-requires-clause-offset c =
    extracted_at c.args.accepted.now c.args.inst.now c.args.operation c.args.base.now c.args.offset.now c.args.count.now c.types_are_sound.ensures
    c.requires.base c.requires.offset c.requires.count c.requires.operation c.requires.extracts c.requires.rule

pub field-requires-clause-count : goal.field-requires-clause-count
field-requires-clause-count c =
    extracted_count c.args.accepted.now c.args.inst.now c.args.operation c.args.base.now c.args.offset.now c.args.count.now c.types_are_sound.ensures
    c.requires.base c.requires.offset c.requires.count c.requires.operation c.requires.extracts c.requires.rule

pub returns-clause-shape : goal.returns-clause-shape
returns-clause-shape c =
    extract_shape c.args.accepted.now c.args.inst.now c.args.operation c.args.base.now c.args.offset.now c.args.count.now c.types_are_sound.ensures
    c.requires.base c.requires.offset c.requires.count c.requires.operation c.requires.extracts c.requires.rule
    c.again-again.result c.field.new.into c.again-again.ensures c.field.ensures.value
