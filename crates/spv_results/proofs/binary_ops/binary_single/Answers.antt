use Rattle.std.proofs.Common.{sym}
use Rattle.spv_results.proofs.BinaryLemmas.{binary_shape, may_meet}
use Rattle.spv_results.proofs.binary_ops.binary_single.Goals as goal

pub binary_single-requires : goal.binary_single-requires
binary_single-requires c =
    may_meet c.args.accepted.now c.args.inst.now c.args.a.now c.args.b.now c.types_are_sound.ensures c.requires.a c.requires.b c.args.operation c.requires.operation c.requires.rule 1
    (sym c.requires.one)

pub returns-clause-shape : goal.returns-clause-shape
returns-clause-shape c =
    binary_shape c.args.accepted.now c.args.inst.now c.args.a.now c.args.b.now c.types_are_sound.ensures c.requires.a c.requires.b c.args.operation c.requires.operation c.requires.rule
    c.binary_single.result c.binary_single.ensures
