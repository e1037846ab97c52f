-- The row of a value: its leaves in order. A pointer is one leaf, of width 0, which no scalar has.
use Rattle.std.specs.Prelude.{◌≡◌, ℕ, true, List, [], ◌∷◌, ◌++◌, length, Option, Some, None}
use Rattle.std.specs.List.{flat_map}
use Rattle.spv_base.specs.Cell.{Cell}
use Rattle.spv_base.specs.Parts.{part_at, with_part}
use Rattle.spv_base.specs.declared.values.Root.{Root}
use Rattle.spv_base.specs.declared.values.Value.{Value, fold-Value}
use Rattle.spv_base.specs.declared.values.Value.TheOpen.{Value-F}
use Rattle.spv_types.specs.Types.{Types}
use Rattle.spv_types.specs.Leaves.{leaf_of}
use Rattle.spv_types.specs.Shapes.{HasShape}

-- the leaf of a pointer
abbrev pub pointer_lane : Cell
pointer_lane = record { bits = 0; width = 0; defined = true }

-- the leaves of one level, where the leaves of each value inside are known
abbrev pub leaves_step : Value-F (List Cell) → List Cell
leaves_step (Value-F.Scalar c) = c ∷ []
leaves_step (Value-F.List rows) = flat_map (λ row. row) rows
leaves_step (Value-F.Ptr p) = pointer_lane ∷ []

-- the leaves of a value in order
unfoldable pub leaves : Value → List Cell
leaves = fold-Value (List Cell) leaves_step

-- no variables: a value of a shape over them has no pointer
abbrev pub no_roots : Root → Option ℕ
no_roots r = None

-- In the row of v the part w that a path names lies behind n leaves, and a part put there changes no other leaf.
pub record Lies (v : Value) (path : List ℕ) (w : Value) (n : ℕ) : Type 0 where
  pub before : List Cell
  pub after : List Cell
  pub begins : length before ≡ n
  pub row : leaves v ≡ before ++ (leaves w ++ after)
  pub written : (u : Value) → leaves (with_part v path u) ≡ before ++ (leaves u ++ after)

-- A part of a value of a type: the value's shape, the leaves before the part, and the part.
pub record IsPlace (ts : Types) (roots : Root → Option ℕ) (id : ℕ) (v : Value) (path : List ℕ) (n : ℕ) (w : Value) : Type 0 where
  pub shape : HasShape ts roots id v
  pub leaf : leaf_of ts id path ≡ Some n
  pub part : part_at v path ≡ Some w

-- the part of v that a path names, behind n leaves, of k leaves
pub record HasRow (v : Value) (path : List ℕ) (n k : ℕ) : Type 0 where
  pub part : Value
  pub is : part_at v path ≡ Some part
  pub lies : Lies v path part n
  pub long : length (leaves part) ≡ k
