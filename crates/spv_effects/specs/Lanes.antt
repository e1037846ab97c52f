-- Lanes: a scalar is one lane, and a vector has one for each component. They are the leaves of the value, in order.
--     of_lanes cs    these lanes as a value: one is a scalar, and several are a vector
--     lane_of v      the one lane of a scalar
-- An operation on each lane is `map` of one operand's lanes, `zip2` of two operands' and `zip3` of three operands'.
use Rattle.std.specs.Prelude.{◌≡◌, ℕ, List, [], ◌∷◌, length, map, slice_index_or}
use Rattle.std.specs.List.{All}
use Rattle.spv_base.specs.Cell.{IsCell, Cell, undefined_cell}
use Rattle.spv_base.specs.declared.values.Value.{Value, Scalar, List as Many}
use Rattle.spv_types.specs.Rows.{leaves}

unfoldable pub of_lanes : List Cell → Value
of_lanes [] = Many []
of_lanes (c ∷ []) = Scalar c
of_lanes (c ∷ (d ∷ cs)) = Many (map Scalar (c ∷ (d ∷ cs)))

-- The lane of a scalar. A value of a scalar type has one lane (values_are_their_lanes), so the cell of width 0 is read of none.
abbrev pub lane_of : Value → Cell
lane_of v = slice_index_or (leaves v) 0 (undefined_cell 0)

-- n lanes of a width
pub record AreLanes (w n : ℕ) (cs : List Cell) : Type 0 where
  pub count : length cs ≡ n
  pub widths : All (λ (c : Cell). c.width ≡ w) cs

-- the same, each with a number that fits the width
pub record AreScalars (w n : ℕ) (cs : List Cell) : Type 0 where
  pub count : length cs ≡ n
  pub fit : All (λ (c : Cell). (c.width ≡ w) × IsCell c) cs
