use Rattle.std.proofs.Common.{arith}
use Rattle.spv_alu.proofs.Insertions.{inserted_lane}
use Rattle.spv_alu.proofs.field_op.FieldOp.result.Goals as goal

pub returns-in-BitFieldInsert-clause-lane : goal.returns-in-BitFieldInsert-clause-lane
returns-in-BitFieldInsert-clause-lane c =
    inserted_lane c.args.self c.args.width c.args.base c.args.insert c.args.offset c.args.count c.inserted.result c.integer.result c.in-BitFieldInsert.is c.requires (omega arith) c.inserted.ensures c.integer.ensures
