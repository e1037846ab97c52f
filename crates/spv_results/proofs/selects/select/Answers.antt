use Rattle.std.proofs.Common.{◌∙◌, length, ap}
use Rattle.spv_types.specs.Rows.{leaves}
use Rattle.spv_results.proofs.SelectLemmas.{may_select, select_shape}
use Rattle.spv_results.proofs.selects.select.Goals as goal

pub select-requires : goal.select-requires
select-requires c =
    may_select c.args.accepted.now c.args.inst.now c.args.condition.now c.args.a.now c.args.b.now c.types_are_sound.ensures c.requires.condition c.requires.a c.requires.b
    c.requires.operation c.requires.sized c.requires.rule (length (leaves c.resize.new.row)) (c.in_ok-resize.ensures.ok ∙ ap length c.cells.ensures)

pub returns-clause-shape : goal.returns-clause-shape
returns-clause-shape c =
    select_shape c.args.accepted.now c.args.inst.now c.args.condition.now c.args.a.now c.args.b.now c.types_are_sound.ensures c.requires.condition c.requires.a c.requires.b
    c.requires.operation c.requires.sized c.requires.rule c.select.new.into c.select.ensures.value
