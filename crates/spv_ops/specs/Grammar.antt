-- The grammar of an opcode, by the table of the opcodes.
use Rattle.std.specs.Prelude.{ℕ, ◌==◌, List, [], ◌∷◌, Option, Some, None, if◌then◌else◌}
use Rattle.spv_ops.specs.Opcodes.{Row, table}

-- the first line with this number
abbrev pub row_with : ℕ → List Row → Option Row
row_with number [] = None
row_with number (row ∷ rows) = if row.0 == number then Some row else row_with number rows

-- the line of an opcode, if it has one
unfoldable pub row_of : ℕ → Option Row
row_of number = row_with number table
