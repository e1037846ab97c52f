-- What a row of the program's table of instructions stands for.
use Rattle.std.specs.Prelude.{ℕ, List, map}
use Rattle.spv_base.specs.declared.instructions.Inst.{Inst}
use Rattle.spv_base.specs.declared.instructions.Operand.{Operand}
use Rattle.spv_base.specs.declared.instructions.Operand.TheVariants as operand
use Rattle.spv_make.specs.declared.rows.Part.{Part}
use Rattle.spv_make.specs.declared.rows.Part.TheVariants as part

-- the operand of a part, where `Turns` stands for this number
abbrev pub operand_of : ℕ → Part → Operand
operand_of number (part.Id id) = operand.Id id
operand_of number (part.Literal literal) = operand.Lit literal
operand_of number (part.Text text) = operand.Text text.now
operand_of number part.Turns = operand.Lit number

-- the instruction with this opcode, result type, result id and parts
abbrev pub inst_of : ℕ → ℕ → ℕ → ℕ → List Part → Inst
inst_of number op ty id parts = record { word = 0; op = op; ty = ty; id = id; operands = map (operand_of number) parts }
