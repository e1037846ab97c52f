-- What holds of each row holds of the one with a number.
use Rattle.std.proofs.Common.{ℕ, zero, suc, ◌<◌, List, [], ◌∷◌, map, length, get_or, arith}
use Rattle.std.specs.List.{AllByRecursion}

pub all_at : {X Y : Type 0} (P : Y → Type 0) (f : X → Y) (xs : List X) (i : ℕ) (d : X) → AllByRecursion P (map f xs) → i < length xs → P (f (get_or xs i d))
all_at P f [] i d all lt = absurd (omega (arith, lt))
all_at P f (x ∷ xs) zero d all lt = all.0
all_at P f (x ∷ xs) (suc i) d all lt = all_at P f xs i d all.1 (omega (arith, lt))
