-- The types of a module, and the types of what its variables hold.
use Rattle.std.specs.Prelude.{◌≡◌, ℕ, List, Some}
use Rattle.spv_base.specs.Cell.{Cell}
use Rattle.spv_base.specs.Entries.{reads}
use Rattle.spv_base.specs.declared.values.Value.{Value}
use Rattle.spv_mem.specs.Memory.{Held as Memory}
use Rattle.spv_types.specs.Laws.{AreSound}
use Rattle.spv_types.specs.Rows.{leaves, no_roots}
use Rattle.spv_types.specs.Shapes.{HasShape}
use Rattle.spv_types.specs.Types.{Types}

pub record Typing : Type 0 where
  pub types : Types
  pub targets : List (ℕ × ℕ)

-- those of a memory
abbrev pub typing_of : Memory → Typing
typing_of m = record { types = m.types; targets = m.targets }

-- a row is that of a value of the type of the variable with an id
pub record IsTypedRow (t : Typing) (id : ℕ) (cells : List Cell) : Type 0 where
  pub sound : AreSound t.types
  pub type : ℕ
  pub named : reads id t.targets ≡ Some type
  pub value : Value
  pub shape : HasShape t.types no_roots type value
  pub row : leaves value ≡ cells
