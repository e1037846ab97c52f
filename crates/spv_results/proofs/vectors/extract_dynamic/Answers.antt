use Rattle.std.proofs.Common.{◌∙◌, subst, sym}
use Rattle.spv_results.specs.Operands.{IsResult}
use Rattle.spv_results.proofs.VectorCalls.{extracts}
use Rattle.spv_results.proofs.vectors.extract_dynamic.Goals as goal

pub extract_dynamic-requires-clause-vector : goal.extract_dynamic-requires-clause-vector
extract_dynamic-requires-clause-vector c =
    (extracts c.args.accepted.now c.args.inst.now c.args.vector.now c.args.index.now c.make_room.ensures.valid c.requires.rule c.requires.vector c.requires.index).vector

pub extract_dynamic-requires-clause-index : goal.extract_dynamic-requires-clause-index
extract_dynamic-requires-clause-index c =
    (extracts c.args.accepted.now c.args.inst.now c.args.vector.now c.args.index.now c.make_room.ensures.valid c.requires.rule c.requires.vector c.requires.index).index

pub extract_dynamic-requires-clause-room : goal.extract_dynamic-requires-clause-room
extract_dynamic-requires-clause-room c =
    c.in_ok-make_room.ensures.room
    ∙ (extracts c.args.accepted.now c.args.inst.now c.args.vector.now c.args.index.now c.make_room.ensures.valid c.requires.rule c.requires.vector c.requires.index).room

pub returns-clause-shape : goal.returns-clause-shape
returns-clause-shape c =
    subst (IsResult c.args.accepted.now c.args.inst.now) (sym c.extract_dynamic.ensures.value)
    (extracts c.args.accepted.now c.args.inst.now c.args.vector.now c.args.index.now c.make_room.ensures.valid c.requires.rule c.requires.vector c.requires.index).shape
