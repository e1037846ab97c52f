-- A function of three lanes on rows, as far as all of them go; one of two lanes is std's zip2.
use Rattle.std.specs.Prelude.{List, [], ◌∷◌}
use Rattle.spv_base.specs.Cell.{Cell}

abbrev pub zip3 : (Cell → Cell → Cell → Cell) → List Cell → List Cell → List Cell → List Cell
zip3 f [] ys zs = []
zip3 f (x ∷ xs) [] zs = []
zip3 f (x ∷ xs) (y ∷ ys) [] = []
zip3 f (x ∷ xs) (y ∷ ys) (z ∷ zs) = f x y z ∷ zip3 f xs ys zs
