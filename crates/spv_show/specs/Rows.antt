-- The row of a value at its type.
use Rattle.std.specs.Prelude.{◌≡◌, ℕ, List, IsSome}
use Rattle.spv_base.specs.Cell.{Cell}
use Rattle.spv_base.specs.declared.values.Value.{Value}
use Rattle.spv_types.specs.Cells.{cells_of}
use Rattle.spv_types.specs.Rows.{leaves, no_roots}
use Rattle.spv_types.specs.Shapes.{HasShape}
use Rattle.spv_types.specs.Types.{Types}

-- Some cells are the leaves of a value of the type with an id, in which there is no pointer and no runtime array.
pub record IsRowOf (ts : Types) (id : ℕ) (cells : List Cell) (v : Value) : Type 0 where
  pub shape : HasShape ts no_roots id v
  pub counted : IsSome (cells_of ts id)
  pub row : leaves v ≡ cells
