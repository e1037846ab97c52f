use Rattle.std.proofs.Common.{◌≡◌, Some, sym, ap, subst, ◌∙◌, arith, Result, Ok, Err}
use Rattle.spv_base.specs.Answers.{Answers}
use Rattle.spv_base.specs.declared.causes.Fail.{Fail}
use Rattle.spv_base.specs.declared.instructions.Inst.{Inst}
use Rattle.spv_base.specs.declared.instructions.RawInst.{RawInst}
use Rattle.spv_ops.specs.declared.reading.WrongOperands.{WrongOperands}
use Rattle.spv_ops.specs.Opcodes.{Row}
use Rattle.spv_ops.specs.Grammar.{row_of}
use Rattle.spv_ops.specs.Reading.{inst_by}
use Rattle.spv_ops.specs.Encoding.{IsFormed}
use Rattle.spv_ops.proofs.InstLaws.{by_formed, formed_again, raw_op}
use Rattle.spv_ops.proofs.encoding.is_read_again.Goals as goal

same_read : (x y : Inst) → Path (Result Inst WrongOperands) (Ok x) (Ok y) → x ≡ y
same_read x y e = cc

pub returns-in-Ok : goal.returns-in-Ok
returns-in-Ok c =
    let row : Row = (c.args.opcode.0, c.args.opcode.1.now, c.args.opcode.2, c.args.opcode.3.now, c.args.opcode.4) in
    let raw : RawInst = record { word = c.args.word; op = c.args.op; rest = c.args.words.now } in
    let op : raw.op ≡ c.args.i.now.op = ap (λ (r : RawInst). r.op) c.requires.words ∙ raw_op c.args.i.now in
    let known : row_of raw.op ≡ Some row = ap row_of op ∙ c.requires.opcode in
    let read : IsFormed c.in-Ok.read = by_formed raw row c.in-Ok.read known (λ i. omega (arith, c.type_inv.words i)) c.in-Ok.ensures in (
      (λ yes. subst IsFormed (c.is_same_inst.ensures.0 yes) read),
      (λ is.
          let again = formed_again row c.args.i.now c.requires.opcode is c.requires.bytes in
          let same : inst_by row raw ≡ Ok c.args.i.now = ap (inst_by row) c.requires.words ∙ again in
          c.is_same_inst.ensures.1 (same_read c.in-Ok.read c.args.i.now (sym c.in-Ok.ensures ∙ same))),
    )

pub returns-in-Err-Refused : goal.returns-in-Err-Refused
returns-in-Err-Refused c =
    let row : Row = (c.args.opcode.0, c.args.opcode.1.now, c.args.opcode.2, c.args.opcode.3.now, c.args.opcode.4) in
    let raw : RawInst = record { word = c.args.word; op = c.args.op; rest = c.args.words.now } in (
      (λ no. absurd cc),
      (λ is.
          let again = formed_again row c.args.i.now c.requires.opcode is c.requires.bytes in
          let same : inst_by row raw ≡ Ok c.args.i.now = ap (inst_by row) c.requires.words ∙ again in
          let refused : inst_by row raw ≡ Err (c.in-Err-Refused.field-0-0) =
          subst (λ (f : Fail WrongOperands). Answers {T = Inst} (inst_by row raw) (Err f)) c.in-Err-Refused.field-0-is c.in-Err-Refused.ensures in
          absurd cc),
    )
