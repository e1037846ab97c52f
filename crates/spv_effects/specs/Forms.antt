-- A value of the form of another, with other leaves in order: lists where that one has lists, and a scalar for each leaf.
use Rattle.std.specs.Prelude.{List, [], ◌∷◌}
use Rattle.spv_base.specs.Cell.{Cell, undefined_cell}
use Rattle.spv_base.specs.declared.values.Value.{Value, Scalar, List as Many, fold-Value}
use Rattle.spv_base.specs.declared.values.Value.TheOpen.{Value-F}

-- what takes leaves off the front of some, and gives a value of them and those behind it
abbrev pub Filler : Type 0
Filler = List Cell → Value × List Cell

abbrev pub fill_scalar : Filler
fill_scalar [] = (Scalar (undefined_cell 0), [])
fill_scalar (c ∷ cs) = (Scalar c, cs)

-- values, one after another
abbrev pub fill_each : List Filler → List Cell → List Value × List Cell
fill_each [] cs = ([], cs)
fill_each (f ∷ fs) cs = ((f cs).0 ∷ (fill_each fs (f cs).1).0, (fill_each fs (f cs).1).1)

-- one level, where the values inside are known by what fills them
abbrev pub fill_step : Value-F Filler → Filler
fill_step (Value-F.Scalar c) cs = fill_scalar cs
fill_step (Value-F.List fs) cs = (Many (fill_each fs cs).0, (fill_each fs cs).1)
fill_step (Value-F.Ptr p) cs = fill_scalar cs

unfoldable pub filled : Value → Filler
filled = fold-Value Filler fill_step

-- the value of the form of v with these leaves
unfoldable pub with_leaves : Value → List Cell → Value
with_leaves v cs = (filled v cs).0
