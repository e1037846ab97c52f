-- What the operands of debug instructions that name no debug instruction stand for: numbers and strings.
use Rattle.std.specs.Prelude.{ℕ, ◌==◌, if◌then◌else◌, List, Option, Some, None}
use Rattle.std.specs.Option.{option_and_then}
use Rattle.spv_base.specs.Entries.{reads}
use Rattle.spv_base.specs.Cell.{Cell}
use Rattle.spv_base.specs.declared.instructions.Inst.{Inst}
use Rattle.spv_types.specs.Types.{Types, form_of}
use Rattle.spv_types.specs.Queries.{is_integer}
use Rattle.spv_index.specs.Definitions.{defining}
use Rattle.spv_index.specs.Operands.{text_operand}
use Rattle.spv_consts.specs.Table.{Row, only}
use Rattle.spv_valid.specs.Acceptance.{Accepted}

-- the number of a scalar of 32 bits, read as unsigned; an undefined one has the number 0
abbrev pub word_in : Cell → Option ℕ
word_in c = if c.width == 32 then Some c.bits else None

-- the number of a constant, where its type is an integer of 32 bits
abbrev pub number_of_row : Types → Row → Option ℕ
number_of_row types row = if is_integer (form_of types row.ty) then option_and_then word_in (only row.cells) else None

-- the number of the constant with an id
unfoldable pub literal_of : Accepted → ℕ → Option ℕ
literal_of m id = option_and_then (number_of_row m.types) (reads id m.constants)

-- the bytes of an OpString (7)
abbrev pub text_in : Inst → Option (List ℕ)
text_in i = if i.op == 7 then text_operand i 0 else None

-- the bytes of the OpString with an id
unfoldable pub string_of : List Inst → ℕ → Option (List ℕ)
string_of insts id = option_and_then text_in (defining insts id)
