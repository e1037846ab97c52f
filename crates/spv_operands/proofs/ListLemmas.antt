-- Lists.
use Rattle.std.proofs.Common.{zero, suc, List, [], ◌∷◌, subst, arith}
use Rattle.std.specs.List.{AllByRecursion, Contains}

pub each_contained : {X : Type 0} (P : X → Type 0) (xs : List X) (x : X) → AllByRecursion P xs → Contains xs x → P x
each_contained P [] x h (k, lt, is) = absurd (omega arith)
each_contained P (y ∷ ys) x (first, rest) (zero, lt, is) = subst P is first
each_contained P (y ∷ ys) x (first, rest) (suc k, lt, is) = each_contained P ys x rest (k, omega arith, is)
