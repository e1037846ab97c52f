use Rattle.std.proofs.Common.{◌∙◌, subst, sym}
use Rattle.spv_results.specs.Operands.{IsResult}
use Rattle.spv_results.proofs.VectorCalls.{inserts}
use Rattle.spv_results.proofs.vectors.insert_dynamic.Goals as goal

pub insert_dynamic-requires-clause-component : goal.insert_dynamic-requires-clause-component
insert_dynamic-requires-clause-component c =
    (inserts c.args.accepted.now c.args.inst.now c.args.vector.now c.args.component.now c.args.index.now c.make_room.ensures.valid c.requires.rule c.requires.vector c.requires.component c.requires.index).component

pub insert_dynamic-requires-clause-index : goal.insert_dynamic-requires-clause-index
insert_dynamic-requires-clause-index c =
    (inserts c.args.accepted.now c.args.inst.now c.args.vector.now c.args.component.now c.args.index.now c.make_room.ensures.valid c.requires.rule c.requires.vector c.requires.component c.requires.index).index

pub insert_dynamic-requires-clause-room : goal.insert_dynamic-requires-clause-room
insert_dynamic-requires-clause-room c =
    c.in_ok-make_room.ensures.room
    ∙ (inserts c.args.accepted.now c.args.inst.now c.args.vector.now c.args.component.now c.args.index.now c.make_room.ensures.valid c.requires.rule c.requires.vector c.requires.component c.requires.index).room

pub returns-clause-shape : goal.returns-clause-shape
returns-clause-shape c =
    subst (IsResult c.args.accepted.now c.args.inst.now) (sym c.insert_dynamic.ensures.value)
    (inserts c.args.accepted.now c.args.inst.now c.args.vector.now c.args.component.now c.args.index.now c.make_room.ensures.valid c.requires.rule c.requires.vector c.requires.component c.requires.index).shape
