use Rattle.std.proofs.Common.{◌∙◌, subst, sym}
use Rattle.spv_results.specs.Operands.{IsResult}
use Rattle.spv_results.proofs.CopyCalls.{copy_fills, object_shape}
use Rattle.spv_results.proofs.copies.copy.Goals as goal

pub copy-requires : goal.copy-requires
copy-requires c =
    c.in_ok-make_room.ensures.room
    ∙ copy_fills c.args.accepted.now c.args.inst.now c.args.a.now c.make_room.ensures.valid c.requires.sized
    (object_shape c.args.accepted.now c.args.inst.now c.args.a.now c.requires.rule c.requires.operand)

pub returns-clause-shape : goal.returns-clause-shape
returns-clause-shape c =
    subst (IsResult c.args.accepted.now c.args.inst.now) (sym c.copy.ensures.value)
    (object_shape c.args.accepted.now c.args.inst.now c.args.a.now c.requires.rule c.requires.operand)
