use Rattle.std.proofs.Common.{sym, arith}
use Rattle.spv_base.specs.declared.instructions.RawInst.{RawInst}
use Rattle.spv_ops.specs.Opcodes.{Row}
use Rattle.spv_ops.proofs.InstLaws.{by_takes}
use Rattle.spv_ops.proofs.decoding.inst_at.Goals as goal

pub returns-in-Ok-clause-encodes : goal.returns-in-Ok-clause-encodes
returns-in-Ok-clause-encodes c =
    let raw : RawInst = record { word = c.args.word; op = c.args.op; rest = c.args.words.now } in
    let opcode = c.in-Some.opcode in
    let row : Row = (opcode.0, opcode.1.now, opcode.2, opcode.3.now, opcode.4) in
    let read = by_takes raw row c.in-Ok.inst (sym c.in-Some.ensures) (omega arith) (λ i. omega (arith, c.type_inv.words i)) c.in-Ok.ensures in
    (read.is_inst, read.encodes)
