-- Opcodes by their names.
use Rattle.std.specs.Prelude.{◌≡◌, ◌⊎◌, List, [], ◌∷◌}
use Rattle.spv_ops.specs.Opcodes.{Row}

-- a line of the table is among these
abbrev pub IsAmong : Row → List Row → Type 0
IsAmong row [] = ⊥
IsAmong row (first ∷ rows) = (row ≡ first) ⊎ IsAmong row rows
