use Rattle.spv_alu.proofs.Insertions.{inserted_bits}
use Rattle.spv_alu.proofs.field_op.inserted.Goals as goal

pub returns : goal.returns
returns c i below =
    inserted_bits c.args.base c.args.insert c.args.offset c.args.count c.greatest.result i c.requires c.greatest.ensures below
